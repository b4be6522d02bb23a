use Rattle.std.proofs.Common.{◌≡◌, length, rules}
use Rattle.laws.proofs.Lists.{length_of_map}
use Rattle.laws.proofs.Maps.{mapped}
use Rattle.snippet.specs.Snippet.{pwl_byte, point_of}
use Rattle.snippet.proofs.Snippet.bytes.Goals as goal

pub returns : goal.returns
returns c =
    let ps = c.args.self.now.points in
    let h : length ps ≡ 16 = search (rules, length_of_map) in
    mapped _ pwl_byte (point_of 0) (λ p q x y called. search (rules, called)) ps c.map.result 16 h c.map.ensures.items.long c.map.ensures.items.at
