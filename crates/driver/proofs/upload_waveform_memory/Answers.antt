use Rattle.std.proofs.Common.{◌≡◌, [], length, sym, ap, ◌∙◌}
use Rattle.da728x.specs.Record.{record_bytes}
use Rattle.da728x.proofs.Kept.{record_length}
use Rattle.exchange.specs.State.{begun_with, begun_in, pushed_all}
use Rattle.sessions.specs.Sessions.{blank}
use Rattle.sessions.proofs.Runs.{ran}
use Rattle.driver.specs.Operations.{upload_record, upload_begun, upload_steps}
use Rattle.driver.proofs.Upload.{few}
use Rattle.driver.proofs.upload_waveform_memory.Goals as goal

pub returns-clause-session_after : goal.returns-clause-session_after
returns-clause-session_after c =
    let a = c.args in
    let m = a.memory.now in
    let r = a.driver.now in
    let bytes = c.to_bytes.ensures ∙ (λ t. record_bytes (record { address = (c.new.ensures t).address; variant = (c.new.ensures t).variant; settings = (c.new.ensures t).settings; sequences = c.num_sequences.ensures t })) in
    let opened = c.opening.ensures ∙ (λ t. blank (c.into.ensures t) (c.new.ensures t).address) in
    let begun : c.begin.new.session ≡ begun_in a.session.now (upload_begun r m) [] =
    c.begin.ensures ∙ (λ t. begun_in a.session.now (let b = opened t in begun_with b.address b.reads b.room b.purpose (c.bytes.ensures.value t) (bytes t)) []) in
    let sent : c.send.new.session ≡ pushed_all c.begin.new.session (upload_steps m a.lock_after) = cc in
    ran _ (upload_begun r m) [] (upload_steps m a.lock_after) (ap length (sym c.bytes.ensures.value) ∙ c.bytes.ensures.len) (record_length (upload_record r m)) (few m a.lock_after) begun sent
