-- An upload sends what the memory shows, and a read fills the front of the buffer. Assumes nothing.
use Prim.Native.Nat.{ℕ, zero, suc, ◌^◌, ◌<◌, min}
use native.Mathlib.Omega.{arith}
use mathlib.Core.Path.{◌≡◌, refl, sym, ◌∙◌, ap, subst}
use mathlib.Core.Bool.{Bool, true, false, not, ◌&&◌}
use mathlib.Core.List.{List, [], ◌∷◌, ◌++◌, append-nil}
use lib.Dec.{ltb, eqb}
use lib.ListN.{length, take, drop, get_or}
use Rattle.laws.specs.Bytes.{All}
use Rattle.exchange.specs.declared.Step.{Step}
use Rattle.exchange.specs.declared.Exchange.{Exchange}
use Rattle.exchange.specs.declared.Step.TheVariants.{Write, Match, Store}
use Rattle.exchange.specs.State.{is_session, read_count, indexed, completed, Begun, begun_with, begun_in}
use Rattle.exchange.specs.Turn.{resized}
use Rattle.exchange.specs.Session.{AnswerCall, exchanges_of, final, sent, came}
use Rattle.exchange.proofs.Fills.{fills}
use Rattle.exchange.proofs.Keeps.{keeps}
use Rattle.exchange.proofs.Latest.{bytes_wanted}
use Rattle.field.specs.Field.{with_of}
use Rattle.registers.specs.Table.{address_of}
use Rattle.memory.specs.declared.WaveformMemory.{WaveformMemory}
use Rattle.da728x.specs.declared.DA728x.{DA728x}
use Rattle.sessions.specs.Sessions.{no_image, blank_record, carrying, set_unlocked, mem_ctl2, chunk_steps, lock_steps, send_steps}
use Rattle.driver.specs.Operations.{begins, revision, new_record, upload_begun, upload_steps}
use Rattle.driver.proofs.Answers.{By, Tamed, tamed, fits_new, fits_upload}
use Rattle.driver.proofs.Mismatch.{into, all_tame, tame_exchanges}
use Rattle.driver.specs.Theorems.{Request, operation_of, Typed, is_upload, all_steps, addressed, payload, Transfers}
use Rattle.driver.proofs.Begun.{Holds, holds, in_order, all_taken, all_sent, all_came, no_image_lem, no_record}
use Rattle.driver.proofs.Upload.{shown}

-- memory reads want a byte each
wanted_each : (n i address last : ℕ) (image bytes : List ℕ) → bytes_wanted (exchanges_of address last image (indexed Store i n) bytes) ≡ n
wanted_each zero i address last image bytes = refl
wanted_each (suc n) i address last image bytes = let k = wanted_each n (suc i) address (get_or (take 1 bytes) 0 last) image (drop 1 bytes) in omega (arith, k)

module _ (r : DA728x) (len room : ℕ) (st : List ℕ) (cs : List AnswerCall) (e : is_session st ≡ true) (h : room < 2 ^ 64) where
  abbrev n : ℕ
  n = min (min len 100) room

  abbrev b : Begun
  b = begun_with r.address n room 5 no_image blank_record

  held : Holds (begun_in st b []) b (indexed Store 0 (min n 100))
  held = holds st b [] e (omega arith, h, no_image_lem, no_record)

  came_all : completed (final (begun_in st b []) cs) ≡ true → length (came (begun_in st b []) cs) ≡ n
  came_all done = all_came held cs done ∙ wanted_each (min n 100) 0 r.address 0 no_image (came (begun_in st b []) cs) ∙ omega arith

  other_buffer : (m : ℕ) → resized (final (begun_in st b []) cs) m ≡ ltb 0 n && not (eqb m room)
  other_buffer m =
      let k = keeps cs (begun_in st b []) held.session in
      let p : read_count (final (begun_in st b []) cs) ≡ n = k.reads ∙ held.reads ∙ omega arith in
      λ i. ltb 0 (p i) && not (eqb m ((k.room ∙ held.room) i))

-- what an upload begins
module _ (r : DA728x) (m : WaveformMemory) (lock_after : Bool) (st : List ℕ) (cs : List AnswerCall) (l : length m.«data» ≡ 100) (e : is_session st ≡ true) where
  abbrev s : List ℕ
  s = begun_in st (upload_begun r m) (upload_steps m lock_after)

  sent_whole : completed (final s cs) ≡ true → payload (sent s cs) ≡ addressed (address_of "SNP_MEM_0") (take m.len m.«data»)
  sent_whole done =
      ap payload (all_sent (holds st (upload_begun r m) (upload_steps m lock_after) e (fits_upload r m lock_after l)) cs done
      ∙ ap (λ (xs : List Step). exchanges_of r.address 0 m.«data» xs (came s cs)) (append-nil (upload_steps m lock_after)))
      ∙ shown r m lock_after (came s cs) l

-- what writes nothing into the memory
none_into : (es : List Exchange) → All (λ e. into e ≡ []) es → payload es ≡ []
none_into [] h = refl
none_into (e ∷ es) h = λ i. h.0 i ++ none_into es h.1 i

none_sent : {s : List ℕ} {b : Begun} {xs : List Step} (h : Holds s b xs) (cs : List AnswerCall) →
    All (λ e. into e ≡ []) (exchanges_of b.address 0 b.image xs (came s cs)) → payload (sent s cs) ≡ []
none_sent {s} h cs a = ap payload (in_order h cs) ∙ none_into _ (all_taken (λ e. into e ≡ []) (length (sent s cs)) _ a)

spares : (r : DA728x) (q : Request) → Typed q → is_upload q ≡ false → (b : Begun) (xs : List Step) → (operation_of r q).start ≡ begins b xs →
    (st : List ℕ) (cs : List AnswerCall) → is_session st ≡ true → payload (sent (begun_in st b xs) cs) ≡ []
spares r q t u b xs e st cs s =
    let g = subst (By (Tamed r.address (operation_of r q).answers)) e (tamed r q t u) in
    none_sent (holds st b xs s g.0.0) cs (tame_exchanges (all_steps b xs) (all_tame b xs g.1) b.address 0 b.image _)

locks : (m : WaveformMemory) → upload_steps m true ≡ upload_steps m false ++ (Write 0x2D 0x00 ∷ [])
unfolding send_steps lock_steps mem_ctl2 with_of
locks m = ap (λ (xs : List Step). set_unlocked true ∷ xs) (ap (λ (xs : List Step). xs ++ (Write 0x2D 0x00 ∷ [])) (sym (append-nil (chunk_steps (min m.len 100)))))

unlocks : (m : WaveformMemory) (lock_after : Bool) → take 1 (upload_steps m lock_after) ≡ Write 0x2D 0x80 ∷ []
unfolding send_steps mem_ctl2 with_of
unlocks m lock_after = refl

pub transfers : Transfers
transfers = record {
  spares = spares;
  spares_new = λ address variant st cs s.
      none_sent (holds st (carrying 1 (new_record address variant)) (Match (address_of "CHIP_REV") (revision variant) ∷ []) s (fits_new address variant).0) cs (refl, tt);
  alone = λ r m lock_after b xs e. subst (By (λ c ys. (c.reads ≡ 0) × (ys ≡ upload_steps m lock_after))) e (refl, refl);
  unlocks = unlocks;
  locks = locks;
  shown = λ r m lock_after st cs l e. sent_whole r m lock_after st cs l e;
  reads = λ r len buffer st replies e h.
      let n = min (min len 100) (length buffer) in
      let b = begun_with r.address n (length buffer) 5 no_image blank_record in
      fills replies (begun_in st b []) 0 (min n 100) buffer (holds st b [] e (omega arith, h, no_image_lem, no_record)).steps (omega arith);
  came_all = λ r len room st cs e h. came_all r len room st cs e h;
  other_buffer = λ r len room m st cs e h. other_buffer r len room st cs e h m;
}
