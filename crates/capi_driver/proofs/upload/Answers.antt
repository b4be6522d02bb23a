use Rattle.std.proofs.Common.{◌≡◌, sym, ap, ◌∙◌, rules}
use Rattle.errors.specs.Number.{answer_number, error_number, handed_by}
use Rattle.memory.specs.Memory.{no_memory}
use Rattle.da728x.specs.declared.DA728x.{DA728x}
use Rattle.da728x.specs.Record.{record_at}
use Rattle.driver.specs.Operations.{start_number, started_in, change_from, upload_waveform_memory}
use Rattle.capi_driver.specs.Words.{record_out, upload_of}
use Rattle.capi_driver.proofs.Uploads.{upload, upload_declined}
use Rattle.capi_driver.proofs.upload.Goals as goal

pub returns-in_err-memory : goal.returns-in_err-memory
returns-in_err-memory c =
    let a = c.args in
    let e = c.in_err-memory.field-0.0 in
    let k = upload_declined (record_at a.«record».now) a.image.now a.lock_after e (sym (ap (handed_by no_memory) c.in_err-memory.was) ∙ c.loaded.ensures) in
    let n : answer_number c.from_residual.result ≡ error_number e = search rules in
    record {
      value = n ∙ ap start_number k;
      record_after = ap (λ s. record_out a.«record».now (change_from a.session.now s)) k;
      session_after = ap (started_in a.session.now) k;
    }

pub returns : goal.returns
unfolding upload_of
returns c =
    let a = c.args in
    let m = c.in_ok-memory.memory in
    let k =
    ap (λ (r : DA728x). (upload_waveform_memory r m a.lock_after).start) c.chip_from_bytes-driver.ensures
    ∙ ap (upload (record_at a.«record».now) a.lock_after) (sym (ap (handed_by no_memory) c.in_ok-memory.was) ∙ c.loaded.ensures) in
    record {
      value = c.upload_waveform_memory.ensures.result_value ∙ ap start_number k;
      record_after = c.put.ensures ∙ ap (record_out a.«record».now) c.zeroing.ensures ∙ ap (λ s. record_out a.«record».now (change_from a.session.now s)) k;
      session_after = c.upload_waveform_memory.ensures.session_after ∙ ap (started_in a.session.now) k;
    }
