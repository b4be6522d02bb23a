-- What a call that can refuse comes to, in the numbers of document 01 and 02: the form in which its contract says the answer. "When an answer is an
-- enum, a definition gives this paper's number and values for each of its cases" ('Which form goes where').
use Rattle.std.specs.Prelude.{ℕ, cond, ltb}

-- a value, or the number of the refusal
pub data Told (A : Type 0) : Type 0 where
  gives : A → Told A
  refuses : ℕ → Told A

-- what is said of a value, and of a refusal
abbrev pub on_told {ℓ} : {A : Type 0} {B : Type ℓ} → Told A → (A → B) → (ℕ → B) → B
on_told (gives a) value refusal = value a
on_told (refuses n) value refusal = refusal n

-- the number alone, 0 for a value
abbrev pub told_number : {A : Type 0} → Told A → ℕ
told_number t = on_told t (λ a. 0) (λ n. n)

-- the value where the number is 0, else the refusal
abbrev pub told_by : {A : Type 0} → ℕ → A → Told A
told_by n a = cond (ltb 0 n) (refuses n) (gives a)

-- a builder's call: 0 or the number of its refusal, and the builder that it hands back
pub record Handed (B : Type 0) : Type 0 where
  pub number : ℕ
  pub builder : B

abbrev pub handed : {B : Type 0} → ℕ → B → Handed B
handed n b = record { number = n; builder = b }

abbrev pub accepted : {B : Type 0} → B → Handed B
accepted b = handed 0 b

-- a refusal hands the builder back as it came in
abbrev pub refused : {B : Type 0} → ℕ → B → Handed B
refused n b = handed n b

-- building: 0 or the number of its refusal, the item, and the builder as it came in
pub record Built (I B : Type 0) : Type 0 where
  pub number : ℕ
  pub item : I
  pub builder : B

abbrev pub built : {I B : Type 0} → ℕ → I → B → Built I B
built n i b = record { number = n; item = i; builder = b }
