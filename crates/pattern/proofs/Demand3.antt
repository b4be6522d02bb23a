-- Demand 3, whole.
-- Assumes nothing.
use mathlib.Core.Path.{◌≡◌, sym, ap, ◌∙◌}
use mathlib.Core.Bool.{Bool, false}
use mathlib.Core.List.{List, ◌++◌}
use lib.ListN.{length}
use Rattle.memory.specs.Memory.{new_memory, built_memory}
use Rattle.content.specs.ReadImage.{read_image}
use Rattle.content.proofs.Images.{image_codec, image_length, same_image, refuses_image, read_same}
use Rattle.content.proofs.Sameness.{canonical}
use Rattle.pattern.specs.Calls.{ran, MemoryCall, memory_step, built_from}
use Rattle.pattern.specs.Demand.{content, Demand3}
use Rattle.pattern.proofs.Flag.{same_number, same_item}
use Rattle.pattern.proofs.Loops.{loops_read}
use Rattle.pattern.proofs.Memories.{image_from_lem, values_from}
use Rattle.pattern.proofs.Runs.{ran_append}
use Rattle.pattern.proofs.Reached.{calls_of, content_reached, built_reached}

-- `build` hands back the builder as it came in
goes_on : (a : Bool) (ks js : List MemoryCall) → built_memory (ran memory_step (built_from a ks).builder js) ≡ built_from a (ks ++ js)
unfolding built_memory
goes_on a ks js = ap built_memory (ran_append memory_step (new_memory a) ks js)

pub demand3 : Demand3
demand3 =
    record {
      flag = λ a ks. (same_number a ks, same_item a ks);
      hundred = λ p e. let w = image_from_lem p.acceleration p.calls e in ap length (sym w.1) ∙ image_length (content p) w.0;
      laid_out = λ p e. image_from_lem p.acceleration p.calls e;
      values = λ p e. values_from p.acceleration p.calls e;
      admits = λ c a. (record { acceleration = false; calls = calls_of c }, built_reached c a, content_reached c a);
      apart = λ p q e f.
          let v = image_from_lem p.acceleration p.calls e in
          let w = image_from_lem q.acceleration q.calls f in
          let s = same_image (content p) (content q) v.0 w.0 in
          (λ h. s.0 (v.1 ∙ h ∙ sym w.1), λ h. sym v.1 ∙ s.1 h ∙ w.1);
      returned = λ l h c e. image_codec.sound l c h e;
      refusal = refuses_image;
      loops_read = loops_read;
      goes_on = λ a ks js. goes_on a ks js;
      read_back = λ p e.
          let w = image_from_lem p.acceleration p.calls e in
          (canonical (content p), ap read_image (sym w.1) ∙ image_codec.complete (content p) w.0, read_same (content p) w.0);
    }
