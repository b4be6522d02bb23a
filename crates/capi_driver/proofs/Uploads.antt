-- What is uploaded is the caller's bytes. Assumes nothing.
use Prim.Native.Nat.{ℕ, zero, suc, ◌<◌, ◌≤◌}
use mathlib.Core.Path.{◌≡◌, refl, ap, ◌∙◌}
use mathlib.Core.Bool.{Bool}
use mathlib.Core.List.{List}
use lib.ListN.{length}
use borrow.Author.Tests.{lt-ltb}
use native.Mathlib.Omega.{arith}
use Rattle.errors.specs.declared.Error.{Error}
use Rattle.errors.specs.Number.{error_number}
use Rattle.errors.proofs.Numbers.{has_number}
use Rattle.errors.specs.Told.{Handed, refused}
use Rattle.memory.specs.declared.WaveformMemory.{WaveformMemory}
use Rattle.memory.specs.Memory.{no_memory}
use Rattle.da728x.specs.declared.DA728x.{DA728x}
use Rattle.driver.specs.Operations.{Start, declines, unless, upload_waveform_memory}
use Rattle.capi_driver.specs.Words.{image_of, upload_of}

abbrev pub upload : DA728x → Bool → Handed WaveformMemory → Start
upload r lock_after m = unless m.number (upload_waveform_memory r m.builder lock_after).start

pub upload_declined : (r : DA728x) (image : List ℕ) (lock_after : Bool) (e : Error) → refused (error_number e) no_memory ≡ image_of image →
    declines (error_number e) ≡ upload_of r image lock_after
unfolding upload_of
upload_declined r image lock_after e h = declined (error_number e) _ (has_number e) ∙ ap (upload r lock_after) h
  where
    declined : (n : ℕ) (s : Start) → 1 ≤ n → declines n ≡ unless n s
    declined zero s h = absurd (omega (arith, h))
    declined (suc n) s h = refl

pub upload_refused : (r : DA728x) (image : List ℕ) (lock_after : Bool) → 100 < length image → upload_of r image lock_after ≡ declines 8
unfolding upload_of
upload_refused r image lock_after h = simp (lt-ltb 100 (length image) h)
