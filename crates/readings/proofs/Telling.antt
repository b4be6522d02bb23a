-- Images that are answered alike are read alike: what is answered gives back the lists, and those the image.
-- Assumes nothing.
use mathlib.Core.Path.{◌≡◌, refl, sym, ap, ◌∙◌, subst}
use mathlib.Core.Bool.{Bool, true, false, cond}
use mathlib.Core.List.{List, [], ◌∷◌, ◌++◌, map}
use mathlib.Core.Option.{Option, none, some}
use Prim.Native.Nat.{ℕ, zero, suc, ◌+◌, ◌-◌, ◌^◌, ◌≤◌, ◌<◌}
use native.Mathlib.Omega.{arith}
use borrow.Author.Tests.{lt-ltb, le-ltb}
use lib.Dec.{ltb}
use lib.ListN.{length, take, drop, replicate, get_elem?, length-append, length-map, length-replicate}
use lib.Seq.{take_at, drop_at}
use Rattle.laws.proofs.Lists.{all_append, all_map}
use Rattle.laws.specs.Bytes.{All, Bytes}
use Rattle.laws.specs.Whole.{whole_out}
use Rattle.laws.specs.Lists.{joined}
use Rattle.errors.specs.Told.{Told, gives, refuses, on_told}
use Rattle.errors.specs.Packed.{packed, Room}
use Rattle.errors.proofs.Packed.{packed_apart}
use Rattle.frame.specs.declared.FrameBuilder.{FrameBuilder}
use Rattle.frame.specs.Builder.{silent_frame}
use Rattle.frame.specs.Frame.{bytes_of}
use Rattle.frame.specs.Agreement.{FrameAdmitted}
use Rattle.memory.specs.Image.{end_pointers, image_bytes}
use Rattle.memory.proofs.Images.{joined_length}
use Rattle.content.specs.Content.{Point, Content, point_bytes, frames_bytes, image_of, Admitted}
use Rattle.content.proofs.Admits.{SequenceAdmitted}
use Rattle.content.specs.ReadImage.{read_image}
use Rattle.content.proofs.Codec.{none_some, some_inj, cons_eq}
use Rattle.content.proofs.Points.{snippet_codec}
use Rattle.content.proofs.Items.{length_pointers}
use Rattle.content.proofs.Images.{image_codec}
use Rattle.reader.specs.Reading.{parts, padded, laid}
use Rattle.reader.specs.Items.{element}
use Rattle.reader.proofs.Cuts.{last_of}
use Rattle.reader.proofs.Flats.{shows}
use Rattle.readings.proofs.Items.{item_there}
use Rattle.readings.specs.Readings.{counts_answer, point_answer, frame_answer}
use Rattle.readings.proofs.Codes.{point_code, byte_code, frame_code}
use Rattle.readings.specs.Lists.{words_bytes, lists_of, lists_item, lists_answer}
use Rattle.readings.specs.Telling.{Alike, ReadingsTold}
use Rattle.readings.proofs.Words.{words_length, word_small, word_told, words_told}

-- ---- an element of a list of lists

-- what is there has the property
abbrev Of : {A : Type 0} → (A → Type 0) → Option A → Type 0
Of P none = Unit
Of P (some x) = P x

module _ {A : Type 0} where
  at_all : (P : A → Type 0) (l : List A) (j : ℕ) → All P l → Of P (get_elem? l j)
  at_all P [] j h = tt
  at_all P (x ∷ l) zero h = h.0
  at_all P (x ∷ l) (suc j) h = at_all P l j h.1

  element_all : (P : A → Type 0) (ls : List (List A)) (i j : ℕ) → All (All P) ls → Of P (element ls i j)
  element_all P [] i j h = tt
  element_all P (l ∷ ls) zero j h = at_all P l j h.0
  element_all P (l ∷ ls) (suc i) j h = element_all P ls i j h.1

  same_list : (l m : List A) → ((j : ℕ) → get_elem? l j ≡ get_elem? m j) → l ≡ m
  same_list [] [] h = refl
  same_list [] (y ∷ m) h = none_some y (h 0)
  same_list (x ∷ l) [] h = none_some x (sym (h 0))
  same_list (x ∷ l) (y ∷ m) h = cons_eq (some_inj (h 0)) (same_list l m (λ j. h (suc j)))

  same_elements : (ls ms : List (List A)) → length ls ≡ length ms → ((i j : ℕ) → element ls i j ≡ element ms i j) → ls ≡ ms
  same_elements [] [] n h = refl
  same_elements [] (m ∷ ms) n h = absurd (omega arith)
  same_elements (l ∷ ls) [] n h = absurd (omega arith)
  same_elements (l ∷ ls) (m ∷ ms) n h = cons_eq (same_list l m (h 0)) (same_elements ls ms (omega arith) (λ i. h (suc i)))

  all_joined : (P : A → Type 0) (ls : List (List A)) → All (All P) ls → All P (joined ls)
  all_joined P [] h = tt
  all_joined P (l ∷ ls) h = all_append P l (joined ls) h.0 (all_joined P ls h.1)

-- ---- codes

point_byte_lem : (ps : List Point) (j : ℕ) → point_code (get_elem? ps j) ≡ byte_code (get_elem? (point_bytes ps) j)
point_byte_lem [] j = refl
point_byte_lem (p ∷ ps) zero = refl
point_byte_lem (p ∷ ps) (suc j) = point_byte_lem ps j

points_bytes : (ls : List (List Point)) (i j : ℕ) → point_code (element ls i j) ≡ byte_code (element (map point_bytes ls) i j)
points_bytes [] i j = refl
points_bytes (l ∷ ls) zero j = point_byte_lem l j
points_bytes (l ∷ ls) (suc i) j = points_bytes ls i j

byte_room : (o : Option ℕ) → Of (λ b. b < 256) o → byte_code o < 2 ^ 16
byte_room none h = omega arith
byte_room (some b) h = omega arith

byte_told : (o p : Option ℕ) → Of (λ b. b < 256) o → Of (λ b. b < 256) p → byte_code o ≡ byte_code p → o ≡ p
byte_told none none h g e = refl
byte_told none (some c) h g e = absurd (omega arith)
byte_told (some b) none h g e = absurd (omega arith)
byte_told (some b) (some c) h g e = ap some e

frame_room : (o : Option FrameBuilder) → Of FrameAdmitted o → frame_code o < 2 ^ 56
frame_room none h = omega arith
frame_room (some f) h = omega (arith, word_small f h)

frame_told : (o p : Option FrameBuilder) → Of FrameAdmitted o → Of FrameAdmitted p → frame_code o ≡ frame_code p → o ≡ p
frame_told none none h g e = refl
frame_told none (some d) h g e = absurd (omega (arith, word_small d g))
frame_told (some c) none h g e = absurd (omega (arith, word_small c h))
frame_told (some c) (some d) h g e = ap some (word_told c d h g e)

-- ---- what is known of a content that was read

record Held (l : List ℕ) (c : Content) : Type 0 where
  admitted : Admitted c
  image : image_of c ≡ l
  bytes : All Bytes (map point_bytes c.snippets)
  frames : All (All FrameAdmitted) c.sequences

all_frames : (qs : List (List FrameBuilder)) → All SequenceAdmitted qs → All (All FrameAdmitted) qs
all_frames [] h = tt
all_frames (q ∷ qs) h = (h.0.each, all_frames qs h.1)

held : (l : List ℕ) (c : Content) → Bytes l → read_image l ≡ some c → Held l c
held l c h e =
    let s = image_codec.sound l c h e in
    record {
      admitted = s.0;
      image = s.1;
      bytes = all_map Bytes point_bytes snippet_codec.fit c.snippets s.0.snippets.each;
      frames = all_frames c.sequences s.0.sequences.each;
    }

-- the same points and the same frames are of the same image
one_image : (l k : List ℕ) (c d : Content) → Held l c → Held k d → map point_bytes c.snippets ≡ map point_bytes d.snippets → c.sequences ≡ d.sequences
    → read_image l ≡ read_image k
unfolding image_of
one_image l k c d a b p q =
    ap read_image (sym a.image ∙ (λ i. image_bytes (p i) (map frames_bytes (q i))) ∙ b.image)

counts_room : (l : List ℕ) (c : Content) → Held l c → Room 16 (counts_answer (some c))
counts_room l c a = omega (arith, a.admitted.snippets.few, a.admitted.sequences.few)

same_counts : (l k : List ℕ) (c d : Content) → Held l c → Held k d → packed 16 (counts_answer (some c)) ≡ packed 16 (counts_answer (some d))
    → (length c.snippets ≡ length d.snippets) × (length c.sequences ≡ length d.sequences)
same_counts l k c d a b e =
    let g = a.admitted.sequences.few in
    let h = b.admitted.sequences.few in
    (omega (arith, e), omega (arith, e))

-- an image is not answered as what is none
not_refused : {X : Type 0} (l : List ℕ) (c : Content) → Held l c → packed 16 (counts_answer none) ≡ packed 16 (counts_answer (some c)) → X
not_refused l c a e =
    let w : counts_answer none ≡ counts_answer (some c) = packed_apart 16 (counts_answer none) (counts_answer (some c)) (omega arith) (counts_room l c a) e in
    cc

-- ---- item by item

-- what holds of a refusal and of any content that was read
of_read : (P : Option Content → Type 0) (l : List ℕ) → Bytes l → P none → ((c : Content) → Held l c → P (some c)) → P (read_image l)
of_read P l h n f = go (read_image l) refl where
  go : (o : Option Content) → read_image l ≡ o → P o
  go none e = n
  go (some c) e = f c (held l c h e)

counts_fit_lem : (l : List ℕ) → Bytes l → Room 16 (counts_answer (read_image l))
counts_fit_lem l h = of_read (λ (o : Option Content). Room 16 (counts_answer o)) l h (omega arith) (counts_room l)

point_fit : (l : List ℕ) → Bytes l → (i j : ℕ) → Room 16 (point_answer (read_image l) i j)
point_fit l h i j =
    of_read (λ (o : Option Content). Room 16 (point_answer o i j)) l h (omega arith)
    (λ c a. subst (λ (n : ℕ). n < 2 ^ 16) (sym (points_bytes c.snippets i j)) (byte_room (element (map point_bytes c.snippets) i j) (element_all (λ b. b < 256) (map point_bytes c.snippets) i j a.bytes)))

frame_fit : (l : List ℕ) → Bytes l → (i j : ℕ) → Room 56 (frame_answer (read_image l) i j)
frame_fit l h i j =
    of_read (λ (o : Option Content). Room 56 (frame_answer o i j)) l h (omega arith)
    (λ c a. frame_room (element c.sequences i j) (element_all FrameAdmitted c.sequences i j a.frames))

same_readings : (l k : List ℕ) → Bytes l → Bytes k → Alike 16 counts_answer l k → ((i j : ℕ) → Alike 16 (λ o. point_answer o i j) l k)
    → ((i j : ℕ) → Alike 56 (λ o. frame_answer o i j) l k) → read_image l ≡ read_image k
same_readings l k hl hk = go (read_image l) (read_image k) refl refl where
  go : (o p : Option Content) → read_image l ≡ o → read_image k ≡ p → packed 16 (counts_answer o) ≡ packed 16 (counts_answer p)
      → ((i j : ℕ) → packed 16 (point_answer o i j) ≡ packed 16 (point_answer p i j)) → ((i j : ℕ) → packed 56 (frame_answer o i j) ≡ packed 56 (frame_answer p i j))
      → read_image l ≡ read_image k
  go none none e f n u v = e ∙ sym f
  go none (some d) e f n u v = not_refused k d (held k d hk f) n
  go (some c) none e f n u v = not_refused l c (held l c hl e) (sym n)
  go (some c) (some d) e f n u v =
      let a = held l c hl e in
      let b = held k d hk f in
      let m = same_counts l k c d a b n in
      let X : List (List ℕ) = map point_bytes c.snippets in
      let Y : List (List ℕ) = map point_bytes d.snippets in
      one_image l k c d a b
      (same_elements X Y (length-map c.snippets point_bytes ∙ m.0 ∙ sym (length-map d.snippets point_bytes))
      (λ i j. byte_told (element X i j) (element Y i j) (element_all (λ b. b < 256) X i j a.bytes) (element_all (λ b. b < 256) Y i j b.bytes) (sym (points_bytes c.snippets i j) ∙ u i j ∙ points_bytes d.snippets i j)))
      (same_elements c.sequences d.sequences m.1
      (λ i j. frame_told (element c.sequences i j) (element d.sequences i j) (element_all FrameAdmitted c.sequences i j a.frames) (element_all FrameAdmitted d.sequences i j b.frames) (v i j)))

-- ---- all lists at once

-- lists whose fronts are equally long
same_parts : {A : Type 0} (a b x y : List A) (n : ℕ) → length a ≡ n → length b ≡ n → a ++ x ≡ b ++ y → (a ≡ b) × (x ≡ y)
same_parts a b x y n p q e = (sym (take_at a x n p) ∙ ap (take n) e ∙ take_at b y n q, sym (drop_at a x n p) ∙ ap (drop n) e ∙ drop_at b y n q)

padded_length : {A : Type 0} (n : ℕ) (blank : A) (l : List A) → length l ≤ n → length (padded n blank l) ≡ n
padded_length n blank l h = omega (arith, length-append l (replicate (n - length l) blank), length-replicate (n - length l) blank)

-- what was padded, where the same number of elements was
padded_told : {A : Type 0} (n : ℕ) (blank : A) (l m : List A) → length l ≡ length m → padded n blank l ≡ padded n blank m → l ≡ m
padded_told n blank l m h e = (same_parts l m _ _ (length m) h refl e).0

-- lists laid end to end, by their number, their elements and their ends
laid_told : {A : Type 0} (most : ℕ) (blank : A) (xs ys : List (List A)) → length xs ≡ length ys → padded 96 blank (joined xs) ≡ padded 96 blank (joined ys)
    → padded most 0 (end_pointers 0 xs) ≡ padded most 0 (end_pointers 0 ys) → xs ≡ ys
laid_told most blank xs ys n p e =
    sym (shows most blank (laid most blank xs) xs refl)
    ∙ (λ i. parts 0 (take (n i) (e i)) (p i))
    ∙ shows most blank (laid most blank ys) ys refl

-- the last end is where all end
last_end : {A : Type 0} (xs : List (List A)) (p : ℕ) → last_of p (end_pointers p xs) ≡ p + length (joined xs)
last_end [] p = omega arith
last_end (x ∷ xs) p = last_end xs (p + length x) ∙ omega (arith, length-append x (joined xs))

frames_bytes_lem : (fs : List FrameBuilder) → length fs ≤ length (frames_bytes fs)
frames_bytes_lem [] = omega arith
frames_bytes_lem (f ∷ fs) = omega (arith, frames_bytes_lem fs, length-append (bytes_of f) (frames_bytes fs))

sequences_bytes : (qs : List (List FrameBuilder)) → length (joined qs) ≤ length (joined (map frames_bytes qs))
sequences_bytes [] = omega arith
sequences_bytes (q ∷ qs) =
    omega (arith, frames_bytes_lem q, sequences_bytes qs, length-append q (joined qs), length-append (frames_bytes q) (joined (map frames_bytes qs)))

-- the four parts of an image's lists
abbrev points : Content → List ℕ
points c = padded 96 0 (joined (map point_bytes c.snippets))

abbrev point_ends : Content → List ℕ
point_ends c = padded 15 0 (end_pointers 0 (map point_bytes c.snippets))

abbrev frames : Content → List ℕ
frames c = padded 576 0 (words_bytes (joined c.sequences))

abbrev frame_ends : Content → List ℕ
frame_ends c = padded 16 0 (end_pointers 0 c.sequences)

record Lengths (c : Content) : Type 0 where
  one : length (points c) ≡ 96
  two : length (points c ++ point_ends c) ≡ 111
  three : length (points c ++ point_ends c ++ frames c) ≡ 687
  all : length (points c ++ point_ends c ++ frames c ++ frame_ends c) ≡ 703

lengths : (l : List ℕ) (c : Content) → Held l c → Lengths c
lengths l c a =
    let g = a.admitted in
    let xs : List (List ℕ) = map point_bytes c.snippets in
    let ys : List (List ℕ) = map frames_bytes c.sequences in
    let n = length-map c.snippets point_bytes in
    let m = length-map c.sequences frames_bytes in
    let j = joined_length xs ys in
    let f = sequences_bytes c.sequences in
    let p = padded_length 96 0 (joined xs) (omega (arith, g.fits, g.snippets.nonempty, g.sequences.nonempty)) in
    let q = padded_length 15 0 (end_pointers 0 xs) (omega (arith, length_pointers 0 xs, g.snippets.few)) in
    let r = padded_length 576 0 (words_bytes (joined c.sequences)) (omega (arith, words_length (joined c.sequences), g.fits, g.snippets.nonempty, g.sequences.nonempty)) in
    let s = padded_length 16 0 (end_pointers 0 c.sequences) (omega (arith, length_pointers 0 c.sequences, g.sequences.few)) in
    let two = length-append (points c) (point_ends c) in
    let three = length-append (points c ++ point_ends c) (frames c) in
    record { one = p; two = omega arith; three = omega arith; all = omega (arith, length-append (points c ++ point_ends c ++ frames c) (frame_ends c)) }

lists_told : (l k : List ℕ) (c d : Content) → Held l c → Held k d → packed 16 (counts_answer (some c)) ≡ packed 16 (counts_answer (some d)) → lists_of c ≡ lists_of d
    → read_image l ≡ read_image k
unfolding lists_of
lists_told l k c d a b n e =
    let m = same_counts l k c d a b n in
    let u = lengths l c a in
    let v = lengths k d b in
    let p = same_parts (points c ++ point_ends c ++ frames c) (points d ++ point_ends d ++ frames d) (frame_ends c) (frame_ends d) 687 u.three v.three e in
    let q = same_parts (points c ++ point_ends c) (points d ++ point_ends d) (frames c) (frames d) 111 u.two v.two p.0 in
    let r = same_parts (points c) (points d) (point_ends c) (point_ends d) 96 u.one v.one q.0 in
    let xs : List (List ℕ) = map point_bytes c.snippets in
    let ys : List (List ℕ) = map point_bytes d.snippets in
    let ends : end_pointers 0 c.sequences ≡ end_pointers 0 d.sequences =
    padded_told 16 0 _ _ (length_pointers 0 c.sequences ∙ m.1 ∙ sym (length_pointers 0 d.sequences)) p.1 in
    let many : length (joined c.sequences) ≡ length (joined d.sequences) = omega (arith, last_end c.sequences 0, ap (last_of 0) ends, last_end d.sequences 0) in
    let words : words_bytes (joined c.sequences) ≡ words_bytes (joined d.sequences) =
    padded_told 576 0 _ _ (omega (arith, words_length (joined c.sequences), words_length (joined d.sequences))) q.1 in
    let same = words_told (joined c.sequences) (joined d.sequences) (all_joined FrameAdmitted c.sequences a.frames) (all_joined FrameAdmitted d.sequences b.frames) many words in
    one_image l k c d a b
    (laid_told 15 0 xs ys (length-map c.snippets point_bytes ∙ m.0 ∙ sym (length-map d.snippets point_bytes)) r.0 r.1)
    (laid_told 16 silent_frame c.sequences d.sequences m.1 (ap (padded 96 silent_frame) same) p.1)

lists_length : (l : List ℕ) (c : Content) → Held l c → length (lists_of c) ≡ 703
unfolding lists_of
lists_length l c a = (lengths l c a).all

-- an image's lists in a buffer
module _ (l : List ℕ) (out : List ℕ) (c : Content) (a : Held l c) where
  listed : 703 ≤ length out → (lists_answer out (some c) ≡ counts_answer (some c)) × (whole_out out (lists_item (some c)) ≡ lists_of c ++ drop 703 out)
  listed h =
      let n = lists_length l c a in
      let t = le-ltb (length out) (length (lists_of c)) (omega (arith, n, h)) in
      (simp t, simp t (ap (λ (k : ℕ). lists_of c ++ drop k out) n))

  short : length out < 703 → (lists_answer out (some c) ≡ refuses 24) × (whole_out out (lists_item (some c)) ≡ out)
  short h = let t = lt-ltb (length out) (length (lists_of c)) (omega (arith, lists_length l c a, h)) in (simp t, simp t)

lists_fit : (l : List ℕ) → Bytes l → (out : List ℕ) → Room 16 (lists_answer out (read_image l))
lists_fit l h out = go (read_image l) (counts_fit_lem l h) where
  two : (bytes : List ℕ) (c : Told ℕ) → Room 16 c → (t : Bool) → Room 16 (on_told (cond {A = Told (List ℕ)} t (refuses 24) (gives bytes)) (λ b. c) refuses)
  two bytes c r true = omega arith
  two bytes c r false = r

  go : (o : Option Content) → Room 16 (counts_answer o) → Room 16 (lists_answer out o)
  go none r = r
  go (some c) r = two (lists_of c) (counts_answer (some c)) r (ltb (length out) (length (lists_of c)))

same_lists : (l k out : List ℕ) → Bytes l → Bytes k → 703 ≤ length out → Alike 16 (lists_answer out) l k
    → whole_out out (lists_item (read_image l)) ≡ whole_out out (lists_item (read_image k)) → read_image l ≡ read_image k
same_lists l k out hl hk full = go (read_image l) (read_image k) refl refl where
  go : (o p : Option Content) → read_image l ≡ o → read_image k ≡ p → packed 16 (lists_answer out o) ≡ packed 16 (lists_answer out p) → whole_out out (lists_item o) ≡ whole_out out (lists_item p)
      → read_image l ≡ read_image k
  go none none e f n u = e ∙ sym f
  go none (some d) e f n u = let b = held k d hk f in not_refused k d b (n ∙ ap (packed 16) (listed k out d b full).0)
  go (some c) none e f n u = let a = held l c hl e in not_refused l c a (sym n ∙ ap (packed 16) (listed l out c a full).0)
  go (some c) (some d) e f n u =
      let a = held l c hl e in
      let b = held k d hk f in
      let x = listed l out c a full in
      let y = listed k out d b full in
      lists_told l k c d a b (sym (ap (packed 16) x.0) ∙ n ∙ ap (packed 16) y.0)
      (same_parts (lists_of c) (lists_of d) (drop 703 out) (drop 703 out) 703 (lists_length l c a) (lists_length k d b) (sym x.1 ∙ u ∙ y.1)).0

pub readings_told : ReadingsTold
readings_told =
    record {
      counts = counts_fit_lem;
      point = point_fit;
      frame = frame_fit;
      lists = lists_fit;
      readings = same_readings;
      listings = same_lists;
      listed = λ l h out c e. listed l out c (held l c h e);
      short = λ l h out c e. short l out c (held l c h e);
      unread = λ out. (refl, refl);
      refused = (refl, λ i j. (refl, refl));
      items = item_there;
    }
