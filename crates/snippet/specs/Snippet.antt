-- Snippets and their builder: document 01, 'Points, frames, sequences' and 'Who can cause which answer'.
-- A count can be any byte: it is kept as it is, sixteen points at most are shown, and a builder with sixteen or more is full.
use Rattle.std.specs.Prelude.{ℕ, ◌+◌, cond, List, map, ltb, leb, take, set, replicate}
use Rattle.errors.specs.Told.{Told, on_told, Handed, accepted, refused, Built, built}
use Rattle.snippet.specs.declared.PwlPoint.{PwlPoint}
use Rattle.snippet.specs.declared.Snippet.{Snippet}
use Rattle.snippet.specs.declared.SnippetBuilder.{SnippetBuilder}

-- the point with a byte, and the byte of a point
abbrev pub point_of : ℕ → PwlPoint
point_of b = record { byte = b }

abbrev pub pwl_byte : PwlPoint → ℕ
pwl_byte p = p.byte

-- the bytes of a snippet's points, in order
abbrev pub snippet_bytes : Snippet → List ℕ
snippet_bytes s = take s.len (map pwl_byte s.points)

-- a builder that holds nothing
abbrev pub new_snippet : SnippetBuilder
new_snippet = record { points = replicate 16 (point_of 0); len = 0 }

-- a point more behind the others, or 6 for a 17th
abbrev pub with_point : SnippetBuilder → PwlPoint → Handed SnippetBuilder
with_point b p = cond (leb 16 b.len) (refused 6 b) (accepted (record { points = set b.points b.len p; len = b.len + 1 }))

-- a point that was asked for by its fields: its own refusal comes first
abbrev pub with_made : SnippetBuilder → Told ℕ → Handed SnippetBuilder
with_made b t = on_told t (λ byte. with_point b (point_of byte)) (λ n. refused n b)

-- what stands in the answer where no snippet was built
abbrev pub no_snippet : Snippet
no_snippet = record { points = new_snippet.points; len = 0 }

-- the snippet of the builder's points, or 9 where there is none
abbrev pub built_snippet : SnippetBuilder → Built Snippet SnippetBuilder
built_snippet b = cond (ltb b.len 1) (built 9 no_snippet b) (built 0 (record { points = b.points; len = b.len }) b)
