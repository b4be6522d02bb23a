-- A raised frame as it is read back, and what it keeps.
-- Assumes nothing.
use Rattle.std.specs.Prelude.{ℕ, zero, suc, ◌+◌, ◌≤◌, ◌≡◌, cond, ◌&&◌, leb, ltb, eqb, length, Some, None}
use Rattle.std.specs.declared.option.Option as rust
use Rattle.std.proofs.Common.{refl, arith}
use Rattle.std.proofs.lemmas.Bool.Decides.{nat_tests}
use Rattle.frame.specs.declared.Gain.{Gain}
use Rattle.frame.specs.declared.Timebase.{Timebase}
use Rattle.frame.specs.declared.FrameBuilder.{FrameBuilder}
use Rattle.frame.specs.Frame.{on_given, bytes_of}
use Rattle.frame.specs.Agreement.{loop_meant}
use Rattle.frame.specs.Builder.{frame_with}
use Rattle.frame.proofs.Canon.{canon}
use Rattle.merge.specs.Merged.{raised_number, raised}
use Rattle.merge.specs.Merge.{Kept}

-- it names one of so many snippets, or silence
abbrev pub Names : ℕ → FrameBuilder → Type 0
Names snippets f = f.snippet_id ≤ snippets

module _ (count n : ℕ) (g : Gain) (t : Timebase) where
  abbrev number : ℕ
  number = raised_number count n

  abbrev own : rust.Option ℕ → rust.Option ℕ → FrameBuilder
  own k q = canon (frame_with n g t k q)

  kept_loops : (k q : rust.Option ℕ)
      → loop_meant (raised count (own k q)) ≡ on_given (own k q).loop_count (cond (ltb number 8) None (Some 0)) Some
  unfolding canon
  kept_loops (Some k) q = refl
  kept_loops None (Some q) = refl
  kept_loops None None = grind (arith, nat_tests)

  kept_size : (k q : rust.Option ℕ) → let l = length (bytes_of (own k q)) in
      length (bytes_of (canon (raised count (own k q)))) ≡ l + cond (eqb l 1 && leb 8 number) 1 0
  unfolding canon
  kept_size k (Some q) = refl
  kept_size (Some k) None = refl
  kept_size None None = grind (arith, nat_tests)

numbered : (count n : ℕ) → (n ≡ 0 → raised_number count n ≡ 0) × (1 ≤ n → raised_number count n ≡ count + n)
numbered count zero = grind arith
numbered count (suc n) = grind arith

pub kept : (count : ℕ) (f : FrameBuilder) → Kept count (canon f) (canon (raised count (canon f)))
unfolding canon
kept count f =
    let number = numbered count f.snippet_id in
    record {
      silence = number.0;
      number = number.1;
      gain = refl;
      timebase = refl;
      loop_count = kept_loops count f.snippet_id f.gain f.timebase f.loop_count f.frequency;
      frequency = refl;
      size = kept_size count f.snippet_id f.gain f.timebase f.loop_count f.frequency;
    }
