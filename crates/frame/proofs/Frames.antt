-- Admitted frames agree, in the words of demand 3, exactly when their bytes are the same.
-- Assumes nothing.
use Rattle.std.specs.Prelude.{Some, None}
use Rattle.std.specs.declared.option.Option as rust
use mathlib.Core.Path.{◌≡◌, sym, ap, ◌∙◌}
use mathlib.Core.Bool.{Bool, true, false, cond}
use mathlib.Core.Logic.{◌↔◌}
use mathlib.Core.List.{[], ◌∷◌, append-nil}
use mathlib.Core.Option.{some, some-injective}
use Prim.Native.Nat.{ℕ, ◌<◌}
use native.Mathlib.Omega.{arith}
use Rattle.laws.specs.Bytes.{Bytes}
use Rattle.frame.specs.declared.FrameBuilder.{FrameBuilder}
use Rattle.frame.specs.Agreement.{Agree, FrameAdmitted}
use Rattle.frame.specs.Frame.{bytes_of, has_second, second_byte}
use Rattle.frame.proofs.Parts.{loops, frequency_bits, third_byte}
use Rattle.frame.specs.Read.{Parsed, read_frame}
use Rattle.frame.proofs.Canon.{canon, canon_agree, agree_canon}
use Rattle.frame.proofs.Reading.{first_small, complete}
use Rattle.frame.proofs.Written.{sound}

loops_small : (k : rust.Option ℕ) → loops k < 16
loops_small None = omega arith
loops_small (Some k) = omega arith

frequency_small : (q : rust.Option ℕ) → frequency_bits q < 7
frequency_small None = omega arith
frequency_small (Some q) = omega arith

third_bytes : (q : rust.Option ℕ) → Bytes (third_byte q)
third_bytes None = tt
third_bytes (Some q) = (omega arith, tt)

-- a frame's bytes are bytes
pub frame_bytes_lem : (f : FrameBuilder) → Bytes (bytes_of f)
frame_bytes_lem f = (omega (arith, first_small f), go (has_second f)) where
  go : (t : Bool) → Bytes (cond t (second_byte f ∷ third_byte f.frequency) [])
  go true = (omega (arith, loops_small f.loop_count, frequency_small f.frequency), third_bytes f.frequency)
  go false = tt

alone : (f : FrameBuilder) → FrameAdmitted f → read_frame (bytes_of f) ≡ some (record { frame = canon f; rest = [] })
alone f h = ap read_frame (sym (append-nil {A = ℕ} (bytes_of f))) ∙ complete f h [] tt

pub canon_bytes : (f : FrameBuilder) → FrameAdmitted f → bytes_of (canon f) ≡ bytes_of f
canon_bytes f h = sym (append-nil {A = ℕ} (bytes_of (canon f))) ∙ (sound (bytes_of f) _ (frame_bytes_lem f) (alone f h)).1

pub same_bytes : (f g : FrameBuilder) → FrameAdmitted f → FrameAdmitted g → (bytes_of f ≡ bytes_of g) ↔ Agree f g
same_bytes f g h k = (
  λ e. canon_agree f g (ap (λ (p : Parsed). p.frame) (some-injective _ _ (sym (alone f h) ∙ ap read_frame e ∙ alone g k))),
  λ a. sym (canon_bytes f h) ∙ ap bytes_of (agree_canon f g a) ∙ canon_bytes g k,
)
