-- A snippet's builder holds the points that its accepted calls added.
-- Assumes nothing.
use mathlib.Core.Path.{◌≡◌, refl, sym}
use mathlib.Core.Logic.{inl, inr}
use mathlib.Core.Bool.{Bool, true, false}
use mathlib.Core.List.{List, [], ◌∷◌, ◌++◌}
use Prim.Native.Nat.{ℕ, ◌%◌, ◌≤◌, ◌<◌}
use native.Mathlib.Decide.{dec_le}
use native.Mathlib.Omega.{arith}
use borrow.Author.Tests.{lt-ltb, le-ltb, le-leb, lt-leb}
use Rattle.laws.proofs.Lists.{all_append}
use Rattle.laws.specs.Bytes.{All}
use Rattle.errors.specs.Told.{Handed}
use Rattle.snippet.specs.declared.SnippetBuilder.{SnippetBuilder}
use Rattle.snippet.specs.Point.{point_byte}
use Rattle.snippet.specs.Point as made
use Rattle.snippet.specs.Snippet as code
use Rattle.snippet.specs.Snippet.{point_of, new_snippet, with_point, with_made, snippet_bytes}
use Rattle.snippet.proofs.Points.{byte_back, byte_admitted}
use Rattle.content.specs.Content.{Point, byte_of}
use Rattle.content.specs.ReadImage.{point_in}
use Rattle.content.proofs.Points.{Good}
use Rattle.pattern.specs.Calls.{SnippetCall, ramp, step, point, snippet_step, added_point, snippet_from, points_from}
use Rattle.pattern.proofs.Outcomes.{Outcome, all_calls, Shows, shows_more}

pub record Holds (b : SnippetBuilder) (ps : List Point) : Type 0 where
  pub shows : Shows 16 code.pwl_byte byte_of b.points b.len ps
  pub good : All Good ps

pub none_held : Holds new_snippet []
none_held = record { shows = record { long = refl; shown = refl; counted = refl; room = omega arith }; good = tt }

abbrev Made : SnippetBuilder → List Point → Handed SnippetBuilder → Point → Type 0
Made b ps s p = Outcome s.number (Holds s.builder (ps ++ (p ∷ []))) (Holds s.builder ps)

-- a point p with the byte x
with_point_lem : (b : SnippetBuilder) (ps : List Point) (x : ℕ) (p : Point) → x ≡ byte_of p → Good p → Holds b ps → Made b ps (with_point b (point_of x)) p
with_point_lem b ps x p e g h = go (dec_le 16 b.len) where
  go : Dec (16 ≤ b.len) → Made b ps (with_point b (point_of x)) p
  go (yes f) = simp (le-leb _ _ f) (inr (omega arith, h))
  go (no f) =
      let l : b.len < 16 = omega arith in
      simp (lt-leb _ _ l)
      (inl (refl, record { shows = shows_more 16 code.pwl_byte byte_of b.points b.len ps (point_of x) p h.shows l e; good = all_append Good ps (p ∷ []) h.good (g, tt) }))

with_made_lem : (b : SnippetBuilder) (ps : List Point) (r : Bool) (t a : ℕ) → Holds b ps
    → Made b ps (with_made b (made.point r t a)) (record { ramp = r; timebases = t; amplitude = a })
with_made_lem b ps r t a h = low (dec_le 1 t) where
  p : Point
  p = record { ramp = r; timebases = t; amplitude = a }

  loud : 1 ≤ t → t ≤ 8 → Dec (a ≤ 15) → Made b ps (with_made b (made.point r t a)) (record { ramp = r; timebases = t; amplitude = a })
  loud u v (yes w) =
      simp (le-ltb _ _ u, le-ltb _ _ v, le-ltb _ _ w)
      (with_point_lem b ps (point_byte r t a) (record { ramp = r; timebases = t; amplitude = a }) refl (record { shortest = u; longest = v; strongest = w }) h)
  loud u v (no w) = let w' : 15 < a = omega arith in simp (le-ltb _ _ u, le-ltb _ _ v, lt-ltb _ _ w') (inr (omega arith, h))

  high : 1 ≤ t → Dec (t ≤ 8) → Made b ps (with_made b (made.point r t a)) (record { ramp = r; timebases = t; amplitude = a })
  high u (yes v) = loud u v (dec_le a 15)
  high u (no v) = let v' : 8 < t = omega arith in simp (le-ltb _ _ u, lt-ltb _ _ v') (inr (omega arith, h))

  low : Dec (1 ≤ t) → Made b ps (with_made b (made.point r t a)) (record { ramp = r; timebases = t; amplitude = a })
  low (yes u) = high u (dec_le t 8)
  low (no u) = let u' : t < 1 = omega arith in simp (lt-ltb _ _ u') (inr (omega arith, h))

pub one_call : (b : SnippetBuilder) (ps : List Point) (k : SnippetCall) → Holds b ps → Made b ps (snippet_step b k) (added_point k)
one_call b ps (ramp t a) h = with_made_lem b ps true t a h
one_call b ps (step t a) h = with_made_lem b ps false t a h
one_call b ps (point x) h = with_point_lem b ps (x % 256) (point_in (x % 256)) (sym (byte_back (x % 256) (omega arith))) (byte_admitted (x % 256)) h

pub snippet_holds : (ks : List SnippetCall) → Holds (snippet_from ks) (points_from ks)
snippet_holds ks = all_calls snippet_step added_point Holds one_call ks new_snippet [] none_held
