-- What an answer does to a session, by the number that is told, from the theorem `Session`. Assumes nothing.
use Rattle.std.proofs.Common.{ℕ, ◌≡◌, ◌∙◌, refl, sym, ap, subst, Bool, true, false, cond, not, ◌&&◌, ◌||◌, eqb, ltb, eqb-true, List, [], ◌∷◌, ◌++◌, length, drop}
use Rattle.std.proofs.lemmas.Bool.{true≢false}
use Rattle.exchange.specs.declared.Step.{Step}
use Rattle.exchange.specs.declared.Step.TheVariants.{Match}
use Rattle.exchange.specs.declared.Reply.{Reply}
use Rattle.exchange.specs.declared.Reply.TheVariants.{Done, Byte, Failed}
use Rattle.exchange.specs.State.{is_session, address_in, read_count, room_in, image_in, left, completed}
use Rattle.exchange.specs.Turn.{pending_of, fit_of, effect_of, moved, state_after, report_of}
use Rattle.exchange.specs.Turn.{pending_for}
use Rattle.exchange.specs.Session.{AnswerCall, fits_exchange, taken, breaks, number_at, after_call}
use Rattle.exchange.proofs.Moves.{moves}
use Rattle.exchange.proofs.Session.{session}

-- 19 changes nothing; 0 takes a step away; any other number ends the session
pub data Told (st t : List ℕ) : ℕ → Type 0 where
  same : t ≡ st → Told st t 19
  gone : (x : Step) (xs : List Step) → left st ≡ x ∷ xs → left t ≡ xs → Told st t 0
  over : (n : ℕ) (x : Step) (xs : List Step) → left st ≡ x ∷ xs → eqb n 0 ≡ false → left t ≡ [] → completed t ≡ false → Told st t n

abbrev is_match : Step → Bool
is_match (Match register value) = true
is_match x = false

-- where nothing is pending, no answer is taken
none_fits : (st : List ℕ) (a : Reply) → fits_exchange (pending_for st []) a ≡ false
none_fits st Done = refl
none_fits st (Byte b) = refl
none_fits st (Failed code) = refl

module _ (st : List ℕ) (c : AnswerCall) where
  abbrev Now : ℕ → Type 0
  Now = Told st (after_call st c)

  refused : taken st c.reply (length c.buffer) ≡ false → Now (number_at st c)
  unfolding after_call
  refused e =
      let n : number_at st c ≡ 19 = eqb-true _ _ (session.takes st c.reply (length c.buffer) ∙ ap not e) in
      subst Now (sym n) (same (session.refused st c.reply c.buffer n).0)

  module _ (x : Step) (xs : List Step) (e : left st ≡ x ∷ xs) (t : taken st c.reply (length c.buffer) ≡ true) where
    next : number_at st c ≡ 0 → Now (number_at st c)
    next n =
        let l : left (after_call st c) ≡ xs =
        session.end st (c ∷ [])
        ∙ (λ i. cond (breaks (n i) || false) [] (drop (length (cond (t i) (pending_of st ∷ []) [] ++ [])) (e i))) in
        subst Now (sym n) (gone x xs e l)

    ended : (n : ℕ) → number_at st c ≡ n → breaks n ≡ true → eqb n 0 ≡ false → Now (number_at st c)
    unfolding after_call
    ended n h b z =
        let k = session.ends st c.reply (length c.buffer) (ap breaks h ∙ b) in
        subst Now (sym h) (over n x xs e z k.0 k.1)

    by_byte : (b : ℕ) → c.reply ≡ Byte b → (y : Step) → y ≡ x → Now (number_at st c)
    by_byte b r (Match register value) h =
        let n : number_at st c ≡ cond (eqb b value) 0 16 =
        ap (λ (a : Reply). (report_of st a (length c.buffer)).number) r
        ∙ session.matches st xs register value b (length c.buffer) (e ∙ ap (λ (y : Step). y ∷ xs) (sym h))
        (ap (λ (a : Reply). taken st a (length c.buffer)) (sym r) ∙ t) in
        go (eqb b value) n
      where
        go : (q : Bool) → number_at st c ≡ cond q 0 16 → Now (number_at st c)
        go true n = next n
        go false n = ended 16 n refl refl
    by_byte b r y h =
        next (ap (λ (a : Reply). (report_of st a (length c.buffer)).number) r
        ∙ session.reads st x xs b (length c.buffer) e (λ register value k. absurd (true≢false (sym (ap is_match (h ∙ k)))))
        (ap (λ (a : Reply). taken st a (length c.buffer)) (sym r) ∙ t))

    by_reply : (a : Reply) → c.reply ≡ a → Now (number_at st c)
    by_reply Done r = next (ap (λ (a : Reply). (report_of st a (length c.buffer)).number) r ∙ session.done st (length c.buffer) (ap (λ (a : Reply). taken st a (length c.buffer)) (sym r) ∙ t))
    by_reply (Failed code) r =
        ended 17
        (ap (λ (a : Reply). (report_of st a (length c.buffer)).number) r
        ∙ (session.fails st code (length c.buffer) (ap (λ (a : Reply). taken st a (length c.buffer)) (sym r) ∙ t)).0) refl refl
    by_reply (Byte b) r = by_byte b r x refl

  by_left : (xs : List Step) → left st ≡ xs → taken st c.reply (length c.buffer) ≡ true → Now (number_at st c)
  by_left [] e t =
      let m : Bool = not (ltb 0 (read_count st) && not (eqb (length c.buffer) (room_in st))) in
      let n : fits_exchange (pending_of st) c.reply ≡ false = ap (λ (l : List Step). fits_exchange (pending_for st l) c.reply) e ∙ none_fits st c.reply in
      absurd (true≢false (sym t ∙ ap (λ (b : Bool). b && m) n))
  by_left (x ∷ xs) e t = by_reply x xs e t c.reply refl

  pub told : Now (number_at st c)
  told = go (taken st c.reply (length c.buffer)) refl
    where
      go : (b : Bool) → taken st c.reply (length c.buffer) ≡ b → Now (number_at st c)
      go true t = by_left (left st) refl t
      go false t = refused t

-- ---- what a session keeps

pub record Same (st t : List ℕ) : Type 0 where
  pub session : is_session t ≡ true
  pub address : address_in t ≡ address_in st
  pub image : image_in t ≡ image_in st
  pub reads : read_count t ≡ read_count st

pub same_after : (st : List ℕ) (c : AnswerCall) → is_session st ≡ true → Same st (after_call st c)
unfolding after_call state_after
same_after st c s =
    let e = effect_of (fit_of st c.reply (length c.buffer)) in
    go e.counts e.stage e.came
  where
    go : (b : Bool) (w : ℕ) (l : List ℕ) → Same st (cond b (moved st w l) st)
    go true w l = let m = moves st w l s in record { session = m.session; address = m.address; image = m.image; reads = m.reads }
    go false w l = record { session = s; address = refl; image = refl; reads = refl }
