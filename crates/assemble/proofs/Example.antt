-- By computation. Assumes nothing.
use mathlib.Core.Path.{refl}
use Rattle.calls.specs.Calls.{calls_in}
use Rattle.memory.specs.Memory.{built_memory}
use Rattle.assemble.specs.Lists.{groups_of, answers_of}
use Rattle.assemble.specs.Example.{Example}

pub example : Example
unfolding groups_of answers_of calls_in built_memory
example =
    record {
      one_built = refl;
      all_built = refl;
      silence_built = refl;
      one_left_out = refl;
      first_told = refl;
      no_stale_frame = refl;
      one_frame = refl;
      refusals = refl;
      snippet = refl;
      frame = refl;
      sequence = refl;
      nine = refl;
      nine_kept = refl;
      just_room = refl;
      more_room = refl;
      no_items = (refl, refl, refl);
      image_short = (refl, refl);
      image_room = (refl, refl);
      no_image = (refl, refl);
    }
