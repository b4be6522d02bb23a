-- Everything that is admitted can be built: a call for each point, frame and item, none refused.
-- Assumes nothing.
use Rattle.std.specs.Prelude.{Option, Some, None}
use mathlib.Core.Path.{◌≡◌, refl, sym, ap, ap₂, ◌∙◌, subst}
use mathlib.Core.Logic.{inl, inr}
use mathlib.Core.Bool.{Bool, true, false}
use mathlib.Core.List.{List, [], ◌∷◌, ◌++◌, map, append_assoc, append-nil}
use Prim.Native.Nat.{ℕ, zero, suc, ◌+◌, ◌≤◌, ◌<◌}
use native.Mathlib.Omega.{arith}
use borrow.Author.Tests.{le-ltb, lt-leb}
use lib.Dec.{ltb}
use lib.ListN.{length, length-append, length-map}
use Rattle.laws.proofs.Lists.{all_left, all_right}
use Rattle.laws.specs.Bytes.{All}
use Rattle.laws.specs.Lists.{joined}
use Rattle.errors.specs.Told.{Told, gives, Handed}
use Rattle.snippet.specs.declared.SnippetBuilder.{SnippetBuilder}
use Rattle.snippet.specs.Point.{PointAdmitted}
use Rattle.snippet.specs.Point as made
use Rattle.snippet.specs.Snippet.{new_snippet, with_made}
use Rattle.frame.specs.declared.Gain.{Gain}
use Rattle.frame.specs.declared.Timebase.{Timebase}
use Rattle.frame.specs.declared.FrameBuilder.{FrameBuilder}
use Rattle.frame.specs.Agreement.{FrameAdmitted}
use Rattle.frame.proofs.Parts.{LoopAdmitted, FrequencyAdmitted}
use Rattle.frame.specs.Builder.{frame_with, plain_frame}
use Rattle.frame.specs.Frame.{bytes_of, frame_bytes, built_frame}
use Rattle.sequence.specs.declared.SequenceBuilder.{SequenceBuilder}
use Rattle.sequence.specs.Sequence.{new_sequence}
use Rattle.memory.specs.declared.WaveformMemoryBuilder.{WaveformMemoryBuilder}
use Rattle.memory.specs.Image.{image_size}
use Rattle.memory.specs.Memory.{new_memory, image_number, built_memory}
use Rattle.memory.proofs.Images.{joined_length}
use Rattle.content.specs.Content.{Point, Content, point_bytes, frames_bytes, Admitted}
use Rattle.content.proofs.Admits.{SnippetAdmitted, SequenceAdmitted}
use Rattle.content.proofs.Points.{Good}
use Rattle.content.proofs.Sequences.{long}
use Rattle.pattern.specs.Calls.{held, SnippetCall, ramp, step, snippet_step, added_point, points_from, FrameCall, gain, timebase, loop_count, frequency_hz, Begin, new, silence, begun_by, FrameCalls, number_of, frame_from, sequence_step, frames_from, snippet_from, sequence_from, MemoryCall, add_snippet, add_sequence, memory_step, content_from, built_from}
use Rattle.pattern.proofs.Items.{frame_ran, with_made_frame, Item, points, frames, added_item, snippets_of, sequences_of, content_of, content_held}
use Rattle.pattern.proofs.Outcomes.{Outcome}
use Rattle.pattern.proofs.Snippets as snippet
use Rattle.frame.proofs.Built.{built_bytes}
use Rattle.pattern.proofs.Frames.{fields_after, ran_fields}
use Rattle.pattern.proofs.Sequences as sequence
use Rattle.pattern.proofs.Sequences.{frames_append}
use Rattle.pattern.proofs.Memories as memory
use Rattle.pattern.proofs.Memories.{snippets_append, sequences_append}

-- ---- any builder

module _ {B K X : Type 0} (step' : B → K → Handed B) (adds : K → X) (P : B → List X → Type 0)
    (one : (b : B) (xs : List X) (k : K) → P b xs → Outcome (step' b k).number (P (step' b k).builder (xs ++ (adds k ∷ []))) (P (step' b k).builder xs))
    (call : X → K) (Fit : List X → Type 0) (less : (xs ys : List X) → Fit (xs ++ ys) → Fit xs)
    (takes : (b : B) (xs : List X) (x : X) → P b xs → Fit (xs ++ (x ∷ [])) → ((step' b (call x)).number ≡ 0) × (adds (call x) ≡ x)) where
  pub all_held : (ys : List X) (b : B) (xs : List X) → P b xs → Fit (xs ++ ys) → held step' adds b (map call ys) ≡ ys
  all_held [] b xs h f = refl
  all_held (y ∷ ys) b xs h f = go (λ p. all_held ys (step' b (call y)).builder (xs ++ (y ∷ [])) p g) (one b xs (call y) h) where
    g : Fit ((xs ++ (y ∷ [])) ++ ys)
    g = subst Fit (sym (append_assoc xs (y ∷ []) ys)) f

    t : ((step' b (call y)).number ≡ 0) × (adds (call y) ≡ y)
    t = takes b xs y h (less (xs ++ (y ∷ [])) ys g)

    go : (P (step' b (call y)).builder (xs ++ (y ∷ [])) → held step' adds (step' b (call y)).builder (map call ys) ≡ ys)
        → Outcome (step' b (call y)).number (P (step' b (call y)).builder (xs ++ (adds (call y) ∷ []))) (P (step' b (call y)).builder xs)
        → held step' adds b (map call (y ∷ ys)) ≡ y ∷ ys
    go rest (inl w) =
        let e : ltb 0 (step' b (call y)).number ≡ false = le-ltb 0 (step' b (call y)).number (let z = w.0 in omega arith) in
        simp e
        (ap₂ (λ (z : X) (zs : List X). z ∷ zs) t.1 (rest (subst (λ (z : X). P (step' b (call y)).builder (xs ++ (z ∷ []))) t.1 w.1)))
    go rest (inr w) = let z = t.0 in absurd (omega (arith, w.0))

-- ---- snippets

abbrev pub PointsFit : List Point → Type 0
PointsFit ps = (length ps ≤ 16) × All Good ps

abbrev called : Bool → ℕ → ℕ → SnippetCall
called true t a = ramp t a
called false t a = step t a

abbrev pub point_call : Point → SnippetCall
point_call p = called p.ramp p.timebases p.amplitude

points_less : (xs ys : List Point) → PointsFit (xs ++ ys) → PointsFit xs
points_less xs ys f = (let n = length-append xs ys in omega (arith, f.0), all_left Good xs ys f.1)

made_number : (b : SnippetBuilder) (r : Bool) (t a : ℕ) → PointAdmitted t a → b.len < 16 → (with_made b (made.point r t a)).number ≡ 0
made_number b r t a g l = simp (le-ltb _ _ g.shortest, le-ltb _ _ g.longest, le-ltb _ _ g.strongest, lt-leb _ _ l)

called_taken : (b : SnippetBuilder) (r : Bool) (t a : ℕ) → PointAdmitted t a → b.len < 16
    → ((snippet_step b (called r t a)).number ≡ 0) × (added_point (called r t a) ≡ record { ramp = r; timebases = t; amplitude = a })
called_taken b true t a g l = (made_number b true t a g l, refl)
called_taken b false t a g l = (made_number b false t a g l, refl)

point_taken : (b : SnippetBuilder) (ps : List Point) (p : Point) → snippet.Holds b ps → PointsFit (ps ++ (p ∷ []))
    → ((snippet_step b (point_call p)).number ≡ 0) × (added_point (point_call p) ≡ p)
point_taken b ps p h f =
    called_taken b p.ramp p.timebases p.amplitude (all_right Good ps (p ∷ []) f.1).0
    (let n = length-append ps (p ∷ []) in let c = h.shows.counted in omega (arith, f.0))

pub points_reached : (ps : List Point) → PointsFit ps → points_from (map point_call ps) ≡ ps
points_reached ps f = all_held snippet_step added_point snippet.Holds snippet.one_call point_call PointsFit points_less point_taken ps new_snippet [] snippet.none_held f

-- ---- frames

abbrev loop_calls : Option ℕ → List FrameCall
loop_calls None = []
loop_calls (Some k) = loop_count k ∷ []

abbrev frequency_calls : Option ℕ → List FrameCall
frequency_calls None = []
frequency_calls (Some f) = frequency_hz f ∷ []

abbrev begin_of : ℕ → Begin
begin_of zero = silence
begin_of (suc n) = new (suc n)

abbrev frame_call_of : ℕ → Gain → Timebase → Option ℕ → Option ℕ → FrameCalls
frame_call_of n g t l q = record { begin = begin_of n; calls = gain g ∷ timebase t ∷ (loop_calls l ++ frequency_calls q) }

abbrev pub frame_call : FrameBuilder → FrameCalls
frame_call f = frame_call_of f.snippet_id f.gain f.timebase f.loop_count f.frequency

number_back : (n : ℕ) → number_of (begin_of n) ≡ n
number_back zero = refl
number_back (suc n) = refl

begun_back : (n : ℕ) → n ≤ 15 → begun_by (begin_of n) ≡ gives (plain_frame n)
begun_back zero h = refl
begun_back (suc n) h = simp (le-ltb (suc n) 1 (omega arith), le-ltb 15 (suc n) h)

frame_back : (n : ℕ) (g : Gain) (t : Timebase) (l : Option ℕ) (q : Option ℕ) → LoopAdmitted l → FrequencyAdmitted q
    → frame_from (frame_call_of n g t l q) ≡ frame_with n g t l q
frame_back n g t None None hl hq = simp (number_back n)
frame_back n g t None (Some f) hl hq = simp (number_back n, le-ltb 511 f hq)
frame_back n g t (Some k) None hl hq = simp (number_back n, le-ltb 15 k hl)
frame_back n g t (Some k) (Some f) hl hq = simp (number_back n, le-ltb 15 k hl, le-ltb 511 f hq)

-- the builder after the calls has the fields that the calls say
ran_plain : (n : ℕ) (ks : List FrameCall) (b : Begin) → number_of b ≡ n → frame_ran (plain_frame n) ks ≡ frame_from (record { begin = b; calls = ks })
ran_plain n ks b e = ran_fields ks (plain_frame n) ∙ ap (λ (m : ℕ). fields_after (plain_frame m) ks) (sym e)

abbrev pub FramesFit : List FrameBuilder → Type 0
FramesFit fs = (length (frames_bytes fs) ≤ 96) × (length fs ≤ 32) × All FrameAdmitted fs

frames_less : (xs ys : List FrameBuilder) → FramesFit (xs ++ ys) → FramesFit xs
frames_less xs ys f = (
  let n = ap length (frames_append xs ys) ∙ length-append (frames_bytes xs) (frames_bytes ys) in omega (arith, f.0),
  let n = length-append xs ys in omega (arith, f.1),
  all_left FrameAdmitted xs ys f.2,
)

made_taken : (b : SequenceBuilder) (m : FrameCalls) (o : Told FrameBuilder) (g : FrameBuilder) → o ≡ gives g
    → b.len + length (frame_bytes (built_frame (frame_ran g m.calls))) ≤ 96 → b.frame_count < 32
    → (with_made_frame b m.calls o).number ≡ 0
made_taken b m o g e p q =
    subst (λ (u : Told FrameBuilder). (with_made_frame b m.calls u).number ≡ 0) (sym e) (simp (le-ltb _ _ p, lt-leb _ _ q))

frame_taken : (b : SequenceBuilder) (fs : List FrameBuilder) (f : FrameBuilder) → sequence.Holds b fs → FramesFit (fs ++ (f ∷ []))
    → ((sequence_step b (frame_call f)).number ≡ 0) × (frame_from (frame_call f) ≡ f)
frame_taken b fs f h w =
    let a = (all_right FrameAdmitted fs (f ∷ []) w.2).0 in
    let back = frame_back f.snippet_id f.gain f.timebase f.loop_count f.frequency a.loop_fits a.frequency_fits in
    let begins = begun_back f.snippet_id a.number_fits in
    let plain = plain_frame f.snippet_id in
    let bytes : frame_bytes (built_frame (frame_ran plain (frame_call f).calls)) ≡ bytes_of f =
    built_bytes (frame_ran plain (frame_call f).calls) ∙ ap bytes_of (ran_plain f.snippet_id (frame_call f).calls (frame_call f).begin (number_back f.snippet_id) ∙ back) in
    let n = ap length (frames_append fs (f ∷ [])) ∙ length-append (frames_bytes fs) (frames_bytes (f ∷ [])) in
    let m = length-append fs (f ∷ []) in
    let k = length-append (bytes_of f) [] in
    let le : length (frame_bytes (built_frame (frame_ran plain (frame_call f).calls))) ≡ length (bytes_of f) = ap length bytes in (
      made_taken b (frame_call f) (begun_by (frame_call f).begin) plain begins (omega (arith, w.0, h.counted)) (omega (arith, w.1, h.frames)),
      back,
    )

pub frames_reached : (fs : List FrameBuilder) → FramesFit fs → frames_from (map frame_call fs) ≡ fs
frames_reached fs f = all_held sequence_step frame_from sequence.Holds sequence.one_call frame_call FramesFit frames_less frame_taken fs new_sequence [] sequence.none_held f

-- ---- items

abbrev Short : List FrameBuilder → Type 0
Short fs = length (frames_bytes fs) ≤ 96

record ItemsFit (is : List Item) : Type 0 where
  few_snippets : length (snippets_of is) ≤ 15
  snippet : All SnippetAdmitted (snippets_of is)
  few_sequences : length (sequences_of is) ≤ 16
  sequence : All SequenceAdmitted (sequences_of is)
  short : All Short (sequences_of is)

items_less : (xs ys : List Item) → ItemsFit (xs ++ ys) → ItemsFit xs
items_less xs ys f =
    let s = snippets_append xs ys in
    let q = sequences_append xs ys in
    record {
      few_snippets = let n = ap length s ∙ length-append (snippets_of xs) (snippets_of ys) in omega (arith, f.few_snippets);
      snippet = all_left SnippetAdmitted (snippets_of xs) (snippets_of ys) (subst (All SnippetAdmitted) s f.snippet);
      few_sequences = let n = ap length q ∙ length-append (sequences_of xs) (sequences_of ys) in omega (arith, f.few_sequences);
      sequence = all_left SequenceAdmitted (sequences_of xs) (sequences_of ys) (subst (All SequenceAdmitted) q f.sequence);
      short = all_left Short (sequences_of xs) (sequences_of ys) (subst (All Short) q f.short);
    }

abbrev item_call : Item → MemoryCall
item_call (points ps) = add_snippet (map point_call ps)
item_call (frames fs) = add_sequence (map frame_call fs)

item_taken : (b : WaveformMemoryBuilder) (is : List Item) (i : Item) → memory.Holds b is → ItemsFit (is ++ (i ∷ []))
    → ((memory_step b (item_call i)).number ≡ 0) × (added_item (item_call i) ≡ i)
item_taken b is (points ps) h w =
    let e = snippets_append is (points ps ∷ []) in
    let a = (all_right SnippetAdmitted (snippets_of is) (ps ∷ []) (subst (All SnippetAdmitted) e w.snippet)).0 in
    let back = points_reached ps (a.few, a.each) in
    let held = snippet.snippet_holds (map point_call ps) in
    let n : length (points_from (map point_call ps)) ≡ length ps = ap length back in
    let p : 1 ≤ (snippet_from (map point_call ps)).len = omega (arith, held.shows.counted, a.nonempty) in
    let m = ap length e ∙ length-append (snippets_of is) (ps ∷ []) in
    let q : b.num_snippets < 15 = omega (arith, w.few_snippets, h.snippets.counted) in
    (simp (le-ltb _ _ p, lt-leb _ _ q), ap points back)
item_taken b is (frames fs) h w =
    let e = sequences_append is (frames fs ∷ []) in
    let a = (all_right SequenceAdmitted (sequences_of is) (fs ∷ []) (subst (All SequenceAdmitted) e w.sequence)).0 in
    let back = frames_reached fs ((all_right Short (sequences_of is) (fs ∷ []) (subst (All Short) e w.short)).0, a.few, a.each) in
    let held = sequence.sequence_holds (map frame_call fs) in
    let n : length (frames_bytes (frames_from (map frame_call fs))) ≡ length (frames_bytes fs) = ap (λ (l : List FrameBuilder). length (frames_bytes l)) back in
    let p : 1 ≤ (sequence_from (map frame_call fs)).len = omega (arith, held.counted, long fs a.nonempty) in
    let m = ap length e ∙ length-append (sequences_of is) (fs ∷ []) in
    let q : b.num_sequences < 16 = omega (arith, w.few_sequences, h.sequences.counted) in
    (simp (le-ltb _ _ p, lt-leb _ _ q), ap frames back)

items_reached : (is : List Item) → ItemsFit is → held memory_step added_item (new_memory false) (map item_call is) ≡ is
items_reached is f = all_held memory_step added_item memory.Holds memory.one_call item_call ItemsFit items_less item_taken is (new_memory false) [] (memory.none_held false) f

-- ---- the whole

snippets_of_points : (ss : List (List Point)) → snippets_of (map points ss) ≡ ss
snippets_of_points [] = refl
snippets_of_points (ps ∷ ss) = ap (λ (l : List (List Point)). ps ∷ l) (snippets_of_points ss)

snippets_of_frames : (qs : List (List FrameBuilder)) → snippets_of (map frames qs) ≡ []
snippets_of_frames [] = refl
snippets_of_frames (fs ∷ qs) = snippets_of_frames qs

sequences_of_points : (ss : List (List Point)) → sequences_of (map points ss) ≡ []
sequences_of_points [] = refl
sequences_of_points (ps ∷ ss) = sequences_of_points ss

sequences_of_frames : (qs : List (List FrameBuilder)) → sequences_of (map frames qs) ≡ qs
sequences_of_frames [] = refl
sequences_of_frames (fs ∷ qs) = ap (λ (l : List (List FrameBuilder)). fs ∷ l) (sequences_of_frames qs)

abbrev items_of : Content → List Item
items_of c = map points c.snippets ++ map frames c.sequences

snippets_back : (c : Content) → snippets_of (items_of c) ≡ c.snippets
snippets_back c =
    snippets_append (map points c.snippets) (map frames c.sequences)
    ∙ ap₂ (λ (u v : List (List Point)). u ++ v) (snippets_of_points c.snippets) (snippets_of_frames c.sequences)
    ∙ append-nil c.snippets

sequences_back : (c : Content) → sequences_of (items_of c) ≡ c.sequences
sequences_back c =
    sequences_append (map points c.snippets) (map frames c.sequences)
    ∙ ap₂ (λ (u v : List (List FrameBuilder)). u ++ v) (sequences_of_points c.snippets) (sequences_of_frames c.sequences)

all_short : (qs : List (List FrameBuilder)) → length (joined (map frames_bytes qs)) ≤ 96 → All Short qs
all_short [] h = tt
all_short (fs ∷ qs) h =
    let n = length-append (frames_bytes fs) (joined (map frames_bytes qs)) in
    (omega (arith, h), all_short qs (omega (arith, h)))

fits_items : (c : Content) → Admitted c → ItemsFit (items_of c)
fits_items c a =
    let j = joined_length (map point_bytes c.snippets) (map frames_bytes c.sequences) in
    let ns = length-map c.snippets point_bytes in
    let nq = length-map c.sequences frames_bytes in
    let data' : length (joined (map frames_bytes c.sequences)) ≤ 96 = omega (arith, a.fits, a.snippets.nonempty, a.sequences.nonempty) in
    record {
      few_snippets = let n = ap length (snippets_back c) in omega (arith, a.snippets.few);
      snippet = subst (All SnippetAdmitted) (sym (snippets_back c)) a.snippets.each;
      few_sequences = let n = ap length (sequences_back c) in omega (arith, a.sequences.few);
      sequence = subst (All SequenceAdmitted) (sym (sequences_back c)) a.sequences.each;
      short = subst (All Short) (sym (sequences_back c)) (all_short c.sequences data');
    }

abbrev pub calls_of : Content → List MemoryCall
calls_of c = map item_call (items_of c)

pub content_reached : (c : Content) → Admitted c → content_from false (calls_of c) ≡ c
content_reached c a =
    sym (content_held false (calls_of c))
    ∙ ap content_of (items_reached (items_of c) (fits_items c a))
    ∙ ap₂ (λ (s : List (List Point)) (q : List (List FrameBuilder)). record { snippets = s; sequences = q }) (snippets_back c) (sequences_back c)

number_zero : (ss qs : List (List ℕ)) → 1 ≤ length ss → 1 ≤ length qs → image_size ss qs ≤ 100 → image_number ss qs ≡ 0
number_zero ss qs p q r = simp (le-ltb _ _ p, le-ltb _ _ q, le-ltb _ _ r)

pub built_reached : (c : Content) → Admitted c → (built_from false (calls_of c)).number ≡ 0
unfolding built_memory
built_reached c a =
    let h = memory.memory_holds false (calls_of c) in
    let e = content_held false (calls_of c) ∙ content_reached c a in
    let ns = length-map c.snippets point_bytes in
    let nq = length-map c.sequences frames_bytes in
    ap₂ image_number h.snippets.shown h.sequences.shown
    ∙ ap (λ (d : Content). image_number (map point_bytes d.snippets) (map frames_bytes d.sequences)) e
    ∙ number_zero (map point_bytes c.snippets) (map frames_bytes c.sequences) (omega (arith, a.snippets.nonempty)) (omega (arith, a.sequences.nonempty)) a.fits
