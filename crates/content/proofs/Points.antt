-- Snippets: reading the points of some bytes undoes writing them.
-- Assumes nothing.
use mathlib.Core.Path.{◌≡◌, refl, ap, ◌∙◌, subst}
use mathlib.Core.Bool.{Bool, true, false, ◌&&◌, and-eq-true_iff}
use mathlib.Core.List.{List, [], ◌∷◌}
use mathlib.Core.Option.{some}
use Prim.Native.Nat.{ℕ, ◌≤◌, ◌<◌}
use native.Mathlib.Omega.{arith}
use borrow.Author.Tests.{le-leb, leb-true}
use lib.Dec.{leb}
use lib.ListN.{length, length-map}
use Rattle.laws.specs.Bytes.{All, Bytes}
use Rattle.snippet.specs.Point.{point_byte, PointAdmitted}
use Rattle.snippet.proofs.Points.{ramp_back, timebases_back, amplitude_back, byte_back, byte_admitted}
use Rattle.content.specs.Content.{Point, byte_of, point_bytes}
use Rattle.content.specs.ReadImage.{point_in, read_snippet}
use Rattle.content.proofs.Admits.{SnippetAdmitted, points_in}
use Rattle.content.proofs.Codec.{Codec, cond_some, cond_on, some_inj, cons_eq}

-- a point that the builders admit
abbrev pub Good : Point → Type 0
Good p = PointAdmitted p.timebases p.amplitude

points_good : (bs : List ℕ) → All Good (points_in bs)
points_good [] = tt
points_good (b ∷ bs) = (byte_admitted b, points_good bs)

pub points_there : (bs : List ℕ) → Bytes bs → point_bytes (points_in bs) ≡ bs
points_there [] h = refl
points_there (b ∷ bs) h = cons_eq (byte_back b h.0) (points_there bs h.1)

point_back : (p : Point) → Good p → point_in (byte_of p) ≡ p
point_back p g =
    let r = ramp_back p.timebases p.amplitude g p.ramp in
    let t = timebases_back p.timebases p.amplitude g p.ramp in
    let a = amplitude_back p.timebases p.amplitude g p.ramp in
    λ i. record { ramp = r i; timebases = t i; amplitude = a i }

points_back : (ps : List Point) → All Good ps → points_in (point_bytes ps) ≡ ps
points_back [] g = refl
points_back (p ∷ ps) g = cons_eq (point_back p g.0) (points_back ps g.1)

byte_small : (r : Bool) (t a : ℕ) → PointAdmitted t a → point_byte r t a < 256
byte_small true t a g = omega (arith, g.longest, g.strongest)
byte_small false t a g = omega (arith, g.longest, g.strongest)

points_bytes : (ps : List Point) → All Good ps → Bytes (point_bytes ps)
points_bytes [] g = tt
points_bytes (p ∷ ps) g = (byte_small p.ramp p.timebases p.amplitude g.0, points_bytes ps g.1)

snippet_sound : (bs : List ℕ) (ps : List Point) → Bytes bs → read_snippet bs ≡ some ps → SnippetAdmitted ps × (point_bytes ps ≡ bs)
unfolding read_snippet
snippet_sound bs ps h e =
    let (t, e₁) = cond_some (leb 1 (length bs) && leb (length bs) 16) _ e in
    let (u, v) = (and-eq-true_iff (leb 1 (length bs)) (leb (length bs) 16)).0 t in
    let n = length-map bs point_in in
    subst (λ (l : List Point). SnippetAdmitted l × (point_bytes l ≡ bs)) (some_inj e₁) (
      record { nonempty = omega (arith, leb-true 1 (length bs) u); few = omega (arith, leb-true (length bs) 16 v); each = points_good bs },
      points_there bs h,
    )

snippet_complete : (ps : List Point) → SnippetAdmitted ps → read_snippet (point_bytes ps) ≡ some ps
unfolding read_snippet
snippet_complete ps g =
    let n = length-map ps byte_of in
    cond_on _ _ ((and-eq-true_iff _ _).1 (le-leb 1 (length (point_bytes ps)) (omega (arith, g.nonempty)), le-leb (length (point_bytes ps)) 16 (omega (arith, g.few))))
    ∙ ap some (points_back ps g.each)

pub snippet_codec : Codec Bytes read_snippet point_bytes SnippetAdmitted (λ ps. ps)
snippet_codec = record { sound = snippet_sound; complete = snippet_complete; fit = λ ps g. points_bytes ps g.each }

pub snippet_long : (ps : List Point) → SnippetAdmitted ps → 1 ≤ length (point_bytes ps)
snippet_long ps g = omega (arith, length-map ps byte_of, g.nonempty)
