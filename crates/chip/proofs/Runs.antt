-- What each try of a session's exchanges keeps, and each exchange that is made hands on, holds of a run of the session, however it is cut. Assumes nothing.
use Rattle.std.proofs.Common.{ℕ, ◌≡◌, ◌∙◌, refl, sym, ap, subst, Bool, true, false, cond, eqb, List, [], ◌∷◌}
use Rattle.std.proofs.lemmas.Bool.{true≢false}
use Rattle.laws.specs.Bytes.{All}
use Rattle.exchange.specs.declared.Step.{Step}
use Rattle.exchange.specs.declared.Exchange.{Exchange}
use Rattle.exchange.specs.Steps.{exchange, exchange_for}
use Rattle.exchange.specs.State.{is_session, is_unbroken, address_in, last_in, image_in, left, none_left, completed}
use Rattle.exchange.specs.Turn.{pending_for, pending_of}
use Rattle.exchange.specs.Session.{AnswerCall, number_at, after_call, final}
use mathlib.Core.List.{cons-ne-nil}
use Rattle.exchange.proofs.Session.{session}
use Rattle.chip.specs.declared.Chip.{Chip}
use Rattle.chip.specs.Writes.{reached, reached_all}
use Rattle.chip.specs.Runs.{tried, Attempt, chip_after, calls}
use Rattle.chip.proofs.Stores.{part_none}
use Rattle.chip.proofs.Turns.{Told, same, gone, over, told, same_after}

-- ---- no exchange

none_tried : (ks : List ℕ) (d : Chip) → tried ks d (exchange 0 [] 0) ≡ d
none_tried [] d = refl
none_tried (k ∷ ks) d = ap (λ (b : Chip). tried ks b (exchange 0 [] 0)) (part_none d k) ∙ none_tried ks d

pub idle_tried : (ks : List ℕ) (d : Chip) (st : List ℕ) → left st ≡ [] → tried ks d (pending_of st) ≡ d
idle_tried ks d st e = ap (λ (xs : List Step). tried ks d (pending_for st xs)) e ∙ none_tried ks d

-- by the number that is told
abbrev pub answered_by : ℕ → Chip → Exchange → Chip
answered_by n d e = cond (eqb n 0) (reached_all d e) d

-- ---- a session that has ended leaves the chip

pub record Stays (t : List ℕ) (more : List Attempt) : Type 0 where
  pub chip : (d : Chip) (rest : List ℕ) → chip_after d t more rest ≡ d
  pub ends : completed (final t (calls more)) ≡ completed t

stays_by : (t u : List ℕ) (n : ℕ) (a : Attempt) (more : List Attempt) → left t ≡ [] → Told t u n → Stays t more →
    ((d : Chip) (rest : List ℕ) → chip_after (answered_by n (tried a.tries d (pending_of t)) (pending_of t)) u more rest ≡ d) × (completed (final u (calls more)) ≡ completed t)
stays_by t u n a more e (same h) s =
    ((λ d rest. (λ j. chip_after (idle_tried a.tries d t e j) (h j) more rest) ∙ s.chip d rest), ap (λ (v : List ℕ). completed (final v (calls more))) h ∙ s.ends)
stays_by t u n a more e (gone x xs f g) s = absurd (cons-ne-nil x xs (sym f ∙ e))
stays_by t u n a more e (over m x xs f z g w) s = absurd (cons-ne-nil x xs (sym f ∙ e))

pub stays : (attempts : List Attempt) (t : List ℕ) → left t ≡ [] → Stays t attempts
stays [] t e = record { chip = λ d rest. idle_tried rest d t e; ends = refl }
stays (a ∷ more) t e =
    let k = stays_by t (after_call t a.call) (number_at t a.call) a more e (told t a.call) (stays more t e) in
    record { chip = k.0; ends = k.1 }

-- ---- a completed session has no step left

nothing : (xs : List Step) → none_left xs ≡ true → xs ≡ []
nothing [] e = refl
nothing (x ∷ xs) e = absurd (true≢false (sym e))

pub all_done : (st : List ℕ) → completed st ≡ true → left st ≡ []
all_done st e = go (is_unbroken st) refl
  where
    go : (b : Bool) → is_unbroken st ≡ b → left st ≡ []
    go true o = nothing (left st) (sym (session.completes st [] o) ∙ e)
    go false o = absurd (true≢false (sym e ∙ (session.closed st o).1))

-- ---- a run

-- P says of the steps left and the chip what each try keeps, and each exchange made hands on to the steps behind it
pub record Keeps (P : List Step → Chip → Type 0) (address : ℕ) (image : List ℕ) : Type 0 where
  pub tries : (x : Step) (xs : List Step) (d : Chip) (k last : ℕ) → P (x ∷ xs) d → P (x ∷ xs) (reached k d (exchange_for address last image x))
  pub makes : (x : Step) (xs : List Step) (d : Chip) (last : ℕ) → P (x ∷ xs) d → P xs (reached_all d (exchange_for address last image x))

-- a session for this chip and with this image
pub record Of (address : ℕ) (image st : List ℕ) : Type 0 where
  pub session : is_session st ≡ true
  pub address_is : address_in st ≡ address
  pub image_is : image_in st ≡ image

pub of_after : (address : ℕ) (image st : List ℕ) (c : AnswerCall) → Of address image st → Of address image (after_call st c)
of_after address image st c o =
    let k = same_after st c o.session in
    record { session = k.session; address_is = k.address ∙ o.address_is; image_is = k.image ∙ o.image_is }

-- where a run ends: with some steps left, with none if it is completed
pub record Ran (P : List Step → Chip → Type 0) (end : List ℕ) (d : Chip) : Type 0 where
  pub steps : List Step
  pub holds : P steps d
  pub whole : completed end ≡ true → P [] d

module _ (P : List Step → Chip → Type 0) (address : ℕ) (image : List ℕ) (kept : Keeps P address image) where
  some_tried : (ks : List ℕ) (xs : List Step) (st : List ℕ) (d : Chip) → Of address image st → P xs d → P xs (tried ks d (pending_for st xs))
  some_tried ks [] st d o p = subst (P []) (sym (none_tried ks d)) p
  some_tried [] (x ∷ xs) st d o p = p
  some_tried (k ∷ ks) (x ∷ xs) st d o p =
      some_tried ks (x ∷ xs) st (reached k d (pending_for st (x ∷ xs))) o
      (subst (λ (a : ℕ). P (x ∷ xs) (reached k d (exchange_for a (last_in st) (image_in st) x))) (sym o.address_is)
      (subst (λ (l : List ℕ). P (x ∷ xs) (reached k d (exchange_for address (last_in st) l x))) (sym o.image_is) (kept.tries x xs d k (last_in st) p)))

  one_made : (x : Step) (xs : List Step) (st : List ℕ) (d : Chip) → Of address image st → P (x ∷ xs) d → P xs (reached_all d (pending_for st (x ∷ xs)))
  one_made x xs st d o p =
      subst (λ (a : ℕ). P xs (reached_all d (exchange_for a (last_in st) (image_in st) x))) (sym o.address_is)
      (subst (λ (l : List ℕ). P xs (reached_all d (exchange_for address (last_in st) l x))) (sym o.image_is) (kept.makes x xs d (last_in st) p))

  run_by : (st t : List ℕ) (n : ℕ) (d : Chip) (more : List Attempt) (rest : List ℕ) → Of address image st → P (left st) d → Told st t n →
      ((b : Chip) → P (left t) b → Ran P (final t (calls more)) (chip_after b t more rest)) →
      Ran P (final t (calls more)) (chip_after (answered_by n d (pending_of st)) t more rest)
  run_by st t n d more rest o p (same h) next = next d (subst (λ (u : List ℕ). P (left u) d) (sym h) p)
  run_by st t n d more rest o p (gone x xs f g) next =
      next (reached_all d (pending_of st))
      (subst (λ (ys : List Step). P ys (reached_all d (pending_of st))) (sym g)
      (subst (λ (ys : List Step). P xs (reached_all d (pending_for st ys))) (sym f) (one_made x xs st d o (subst (λ (ys : List Step). P ys d) f p))))
  run_by st t n d more rest o p (over m x xs f z g w) next =
      let s = stays more t g in
      let e : chip_after (answered_by n d (pending_of st)) t more rest ≡ d =
      ap (λ (b : Bool). chip_after (cond b (reached_all d (pending_of st)) d) t more rest) z ∙ s.chip d rest in
      record { steps = left st; holds = subst (P (left st)) (sym e) p; whole = λ h. absurd (true≢false (sym h ∙ s.ends ∙ w)) }

  pub run : (attempts : List Attempt) (st : List ℕ) (d : Chip) (rest : List ℕ) → Of address image st → P (left st) d →
      Ran P (final st (calls attempts)) (chip_after d st attempts rest)
  run [] st d rest o p =
      let q = some_tried rest (left st) st d o p in
      record { steps = left st; holds = q; whole = λ w. subst (λ (xs : List Step). P xs (tried rest d (pending_of st))) (all_done st w) q }
  run (a ∷ more) st d rest o p =
      run_by st (after_call st a.call) (number_at st a.call) (tried a.tries d (pending_of st)) more rest o (some_tried a.tries (left st) st d o p) (told st a.call)
      (λ b q. run more (after_call st a.call) b rest (of_after address image st a.call o) q)

-- ---- steps of which no part changes the chip

module _ (c : Chip) (address : ℕ) (image : List ℕ) where
  abbrev pub Idle : Step → Type 0
  Idle x = (k last : ℕ) → reached k c (exchange_for address last image x) ≡ c

  abbrev AllIdle : List Step → Chip → Type 0
  AllIdle xs d = All Idle xs × (d ≡ c)

  idles : Keeps AllIdle address image
  idles = record {
    tries = λ x xs d k last p. (p.0, ap (λ (b : Chip). reached k b (exchange_for address last image x)) p.1 ∙ p.0.0 k last);
    makes = λ x xs d last p. let e = exchange_for address last image x in (p.0.1, ap (λ (b : Chip). reached_all b e) p.1 ∙ p.0.0 e.len last);
  }

  -- nor does a session that has these left
  pub idle_run : (st : List ℕ) → Of address image st → All Idle (left st) → (attempts : List Attempt) (rest : List ℕ) → chip_after c st attempts rest ≡ c
  idle_run st o p attempts rest = (run AllIdle address image idles attempts st c rest o (p, refl)).holds.1
