use Rattle.std.proofs.Common.{ℕ, zero, suc, ◌≡◌, ◌≤◌, List, [], ◌∷◌, ◌++◌, length, replicate, arith, refl, ap, ◌∙◌}
use Rattle.std.proofs.lemmas.List.{drop-replicate}
use Rattle.laws.specs.Lists.{at}
use Rattle.laws.proofs.Copies.{copied_fits}
use Rattle.memory.specs.Memory.{loaded}
use Rattle.capi_driver.proofs.loaded.Goals as goal

-- an image's bytes by index, those past its end too
byte_at : (image : List ℕ) (k i : ℕ) → at (image ++ replicate k 0) i ≡ at image i
byte_at [] zero i = refl
byte_at [] (suc k) zero = refl
byte_at [] (suc k) (suc i) = byte_at [] k i
byte_at (b ∷ image) k zero = refl
byte_at (b ∷ image) k (suc i) = byte_at image k i

pub returns : goal.returns
returns c =
    let image = c.args.image.now in
    let few : length image ≤ 100 = omega (arith, c.if-image-gt-MAX_MEMORY_SIZE.false) in
    let laid = c.copy_into.ensures.buffer_after ∙ copied_fits (replicate 100 0) image few ∙ ap (λ l. image ++ l) (drop-replicate (length image) 100 0) in
    let byte : (i : ℕ) → at c.copy_into.new.buffer i ≡ at image i = λ i. ap (λ l. at l i) laid ∙ byte_at image _ i in
    c.from_bytes.ensures ∙ (λ t. loaded (laid t) (length image) (byte 0 t) (byte 1 t))
