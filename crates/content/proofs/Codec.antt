-- A reader and a writer that undo each other, and what follows from the two laws alone.
-- Assumes nothing.
use mathlib.Core.Path.{◌≡◌, refl, subst}
use mathlib.Core.Logic.{◌↔◌}
use mathlib.Core.Bool.{Bool, true, false, cond}
use mathlib.Core.List.{List, [], ◌∷◌, map}
use mathlib.Core.Option.{Option, none, some, none-ne-some}
use Prim.Native.Nat.{ℕ}
use native.Mathlib.Omega.{arith}
use Rattle.laws.specs.Bytes.{All}
use Rattle.content.specs.ReadImage.{and_then, every}

module _ {A : Type 0} where
  pub none_some : {X : Type 0} (a : A) → none ≡ some a → X
  none_some a e = absurd (none-ne-some a e)

  pub some_inj : {a b : A} → some a ≡ some b → a ≡ b
  some_inj e = cc

  pub cond_some : (t : Bool) (m : Option A) {a : A} → cond t m none ≡ some a → (t ≡ true) × (m ≡ some a)
  cond_some true m e = (refl, e)
  cond_some false m {a} e = none_some a e

  pub cond_on : (t : Bool) (m : Option A) → t ≡ true → cond t m none ≡ m
  cond_on t m e = simp e

  pub cons_eq : {a b : A} {l m : List A} → a ≡ b → l ≡ m → a ∷ l ≡ b ∷ m
  cons_eq p q = λ i. p i ∷ q i

module _ {A B : Type 0} where
  pub then_some : (m : Option A) (f : A → Option B) {b : B} → and_then m f ≡ some b → (a : A) × (m ≡ some a) × (f a ≡ some b)
  then_some none f {b} e = none_some b e
  then_some (some a) f e = (a, refl, e)

  -- reading bytes that fit, writing what is good; `canon` is what comes back
  pub record Codec (Fit : A → Type 0) (read : A → Option B) (write : B → A) (Good : B → Type 0) (canon : B → B) : Type 0 where
    pub sound : (a : A) (b : B) → Fit a → read a ≡ some b → Good b × (write b ≡ a)
    pub complete : (b : B) → Good b → read (write b) ≡ some (canon b)
    pub fit : (b : B) → Good b → Fit (write b)

  module _ (Fit : A → Type 0) (read : A → Option B) (write : B → A) (Good : B → Type 0) (canon : B → B) (k : Codec Fit read write Good canon) where
    pub refuses : (a : A) → Fit a → (read a ≡ none) ↔ ¬ ((b : B) × (Good b × (write b ≡ a)))
    refuses a h = (λ e w. none_some (canon w.0) (cc (k.complete w.0 w.1.0, w.1.1, e)), λ f. go f (read a) refl)
      where
        go : ¬ ((b : B) × (Good b × (write b ≡ a))) → (m : Option B) → read a ≡ m → read a ≡ none
        go f none e = e
        go f (some b) e = absurd (f (b, k.sound a b h e))

    pub write_canon : (b : B) → Good b → write (canon b) ≡ write b
    write_canon b g = (k.sound (write b) (canon b) (k.fit b g) (k.complete b g)).1

    pub good_canon : (b : B) → Good b → Good (canon b)
    good_canon b g = (k.sound (write b) (canon b) (k.fit b g) (k.complete b g)).0

    pub same : (b d : B) → Good b → Good d → (write b ≡ write d) ↔ (canon b ≡ canon d)
    same b d g h = (λ e. cc (k.complete b g, k.complete d h), λ e. cc (write_canon b g, write_canon d h))

module _ {A B : Type 0} (Fit : A → Type 0) (read : A → Option B) (write : B → A) (Good : B → Type 0) (canon : B → B) (k : Codec Fit read write Good canon) where
  every_sound : (xs : List A) (ys : List B) → All Fit xs → every read xs ≡ some ys → All Good ys × (map write ys ≡ xs)
  every_sound [] [] h e = (tt, refl)
  every_sound [] (y ∷ ys) h e = let z : ◌≡◌ {A = ℕ} 0 1 = cc in absurd (omega arith)
  every_sound (x ∷ xs) ys h e =
      let (y, p, e₁) = then_some (read x) (λ y. and_then (every read xs) (λ ys. some (y ∷ ys))) e in
      let (zs, q, e₂) = then_some (every read xs) (λ ys. some (y ∷ ys)) e₁ in
      let r : y ∷ zs ≡ ys = cc in
      let s = k.sound x y h.0 p in
      let t = every_sound xs zs h.1 q in
      subst (λ (l : List B). All Good l × (map write l ≡ x ∷ xs)) r ((s.0, t.0), cons_eq s.1 t.1)

  every_complete : (ys : List B) → All Good ys → every read (map write ys) ≡ some (map canon ys)
  every_complete [] g = refl
  every_complete (y ∷ ys) g = rw (k.complete y g.0, every_complete ys g.1)

  every_fit : (ys : List B) → All Good ys → All Fit (map write ys)
  every_fit [] g = tt
  every_fit (y ∷ ys) g = (k.fit y g.0, every_fit ys g.1)

  pub every_codec : Codec (All Fit) (every read) (map write) (All Good) (map canon)
  every_codec = record { sound = every_sound; complete = every_complete; fit = every_fit }
