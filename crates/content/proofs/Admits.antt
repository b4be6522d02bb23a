-- Names for what the proofs speak of: a snippet and a sequence that the builders admit, and the points of bytes.
use Prim.Native.Nat.{ℕ}
use mathlib.Core.List.{List, map}
use Rattle.snippet.specs.Point.{PointAdmitted}
use Rattle.frame.specs.declared.FrameBuilder.{FrameBuilder}
use Rattle.frame.specs.Agreement.{FrameAdmitted}
use Rattle.content.specs.Content.{Point, Within}
use Rattle.content.specs.ReadImage.{point_in}

abbrev pub SnippetAdmitted : List Point → Type 0
SnippetAdmitted ps = Within 16 (λ (p : Point). PointAdmitted p.timebases p.amplitude) ps

abbrev pub SequenceAdmitted : List FrameBuilder → Type 0
SequenceAdmitted fs = Within 32 FrameAdmitted fs

abbrev pub points_in : List ℕ → List Point
points_in bs = map point_in bs
