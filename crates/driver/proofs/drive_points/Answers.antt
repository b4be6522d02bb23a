use Rattle.std.proofs.Common.{arith, [], ◌∷◌}
use Rattle.laws.specs.Lists.{at}
use Rattle.plans.specs.Fields.{put, written_with}
use Rattle.sessions.proofs.Runs.{ran_blank}
use Rattle.driver.proofs.drive_points.Goals as goal

pub returns : goal.returns
returns c =
    let points = c.args.points in
    let first = written_with "SWG_C1" (put "CUSTOM_WAVE_GEN_COEFF1" (at points 0) ∷ []) in
    let second = written_with "SWG_C2" (put "CUSTOM_WAVE_GEN_COEFF2" (at points 1) ∷ []) in
    let third = written_with "SWG_C3" (put "CUSTOM_WAVE_GEN_COEFF3" (at points 2) ∷ []) in
    ran_blank _ {s = c.write.new.session} 0 c.args.driver.now.address (first ∷ []) (second ∷ third ∷ []) (omega arith) (cc) (cc)
