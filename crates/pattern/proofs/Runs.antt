-- Calls one after the other. Assumes nothing.
use mathlib.Core.Path.{◌≡◌, refl}
use mathlib.Core.List.{List, [], ◌∷◌, ◌++◌}
use Rattle.errors.specs.Told.{Handed}
use Rattle.pattern.specs.Calls.{ran}

pub ran_append : {B K : Type 0} (step : B → K → Handed B) (b : B) (ks js : List K)
    → ran step (ran step b ks) js ≡ ran step b (ks ++ js)
ran_append step b [] js = refl
ran_append step b (k ∷ ks) js = ran_append step (step b k).builder ks js
