-- Steps pushed to a session that was begun are the session's steps. Assumes nothing.
use Prim.Native.Nat.{ℕ, ◌≤◌}
use mathlib.Core.Path.{◌≡◌, refl, ap, ◌∙◌}
use mathlib.Core.List.{List, [], ◌∷◌, ◌++◌}
use lib.ListN.{length}
use Rattle.exchange.specs.declared.Step.{Step}
use Rattle.exchange.specs.declared.Step.TheVariants.{Read, Update}
use Rattle.exchange.specs.State.{Begun, begun_in, pushed, pushed_all}
use Rattle.exchange.proofs.Pushes.{pushes}
use Rattle.da728x.specs.declared.DA728x.{DA728x}
use Rattle.da728x.proofs.Kept.{record_length}
use Rattle.sessions.specs.Sessions.{no_image, blank_record, blank, carrying}

-- a step behind those that are known
pub on : {s t u : List ℕ} {x y : Step} → u ≡ pushed t x → t ≡ s → x ≡ y → u ≡ pushed s y
on e h k = e ∙ (λ i. pushed (h i) (k i))

pub ran : (st : List ℕ) {s u : List ℕ} (b : Begun) (xs ys : List Step) → length b.image ≡ 100 → length b.«record» ≡ 38 → length (xs ++ ys) ≤ 25 → s ≡ begun_in st b xs → u ≡ pushed_all s ys →
    u ≡ begun_in st b (xs ++ ys)
ran st b xs ys image kept few h k = k ∙ ap (λ (l : List ℕ). pushed_all l ys) h ∙ pushes st b xs ys image kept few

pub ran_blank : (st : List ℕ) {s u : List ℕ} (purpose address : ℕ) (xs ys : List Step) → length (xs ++ ys) ≤ 25 → s ≡ begun_in st (blank purpose address) xs → u ≡ pushed_all s ys →
    u ≡ begun_in st (blank purpose address) (xs ++ ys)
unfolding no_image blank_record
ran_blank st purpose address xs ys few h k = ran st (blank purpose address) xs ys refl refl few h k

pub made : (st : List ℕ) {s u : List ℕ} (purpose : ℕ) (next : DA728x) (xs : List Step) → length xs ≤ 25 → s ≡ begun_in st (carrying purpose next) [] → u ≡ pushed_all s xs →
    u ≡ begun_in st (carrying purpose next) xs
unfolding no_image
made st purpose next xs few h k = ran st (carrying purpose next) [] xs refl (record_length next) few h k

-- a register read, and written back with a field replaced
pub runs_update : (st : List ℕ) {u : List ℕ} (b : Begun) {r q v w : ℕ} (start width : ℕ) → u ≡ begun_in st b (Read r ∷ Update r start width v ∷ []) → r ≡ q → v ≡ w →
    u ≡ begun_in st b (Read q ∷ Update q start width w ∷ [])
runs_update st b start width e h k = e ∙ (λ i. begun_in st b (Read (h i) ∷ Update (h i) start width (k i) ∷ []))
