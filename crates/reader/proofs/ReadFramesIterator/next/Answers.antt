-- One frame more.
use Rattle.std.proofs.Common.{◌≡◌, ◌<◌, ◌-◌, ◌∙◌, List, ℕ, [], ◌∷◌, zero, suc, Ok, Err, length, drop, ap, arith, sym, rules}
use Rattle.std.proofs.Math.Option.{Option}
use Rattle.std.proofs.lemmas.List.{take_rest}
use Rattle.errors.specs.Told.{gives}
use Rattle.errors.specs.declared.Error.TheVariants.{NotAnImage}
use Rattle.frame.specs.declared.FrameBuilder.{FrameBuilder}
use Rattle.frame.specs.Read.{Parsed, read_frame, first_frame}
use Rattle.content.specs.ReadImage.{on_option}
use Rattle.reader.specs.Walk.{frames_from}
use Rattle.reader.proofs.Running.{took}
use Rattle.reader.proofs.ReadFramesIterator.next.Goals as goal

left_one : (k : ℕ) (l : List ℕ) (m : Option Parsed) → 0 < length l → 0 < k → read_frame l ≡ m
    → frames_from k l ≡ on_option m (Err NotAnImage ∷ []) (λ p. Ok p.frame ∷ frames_from (k - 1) p.rest)
left_one k [] m h g e = absurd (omega arith)
left_one zero (b ∷ bs) m h g e = absurd (omega arith)
left_one (suc k) (b ∷ bs) m h g e =
    let j : k ≡ suc k - 1 = omega arith in
    ap (λ (x : Option Parsed). on_option x (Err NotAnImage ∷ []) (λ p. Ok p.frame ∷ frames_from k p.rest)) e
    ∙ ap (λ (j : ℕ). on_option m (Err NotAnImage ∷ []) (λ p. Ok p.frame ∷ frames_from j p.rest)) j

left_next : (k : ℕ) (l : List ℕ) (f : FrameBuilder) (m : ℕ) → 0 < length l → 0 < k → gives (record { frame = f; len = m }) ≡ first_frame l
    → frames_from k l ≡ Ok f ∷ frames_from (k - 1) (drop m l)
left_next k l f m h g e = left_one k l _ h g (took l f m e)

pub returns-in-Ok-clause-steps : goal.returns-in-Ok-clause-steps
returns-in-Ok-clause-steps c =
    let s = c.args.self.now in
    let l = s.rest.now in
    let f = c.in-Ok.frame in
    let n = c.in-Ok.n in
    let h : 0 < length l = search rules in
    left_next s.left l f n h c.if-self-gt0.true c.in-Ok.ensures.value ∙ ap (λ r. Ok f ∷ frames_from (s.left - 1) r) (sym (take_rest l n))

pub returns-in-Ok-clause-goes : goal.returns-in-Ok-clause-goes
returns-in-Ok-clause-goes c = let e = ap length (returns-in-Ok-clause-steps c) in search (rules, e)
