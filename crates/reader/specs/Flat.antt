-- The lists, padded one element at a time, as the code does it; what finds no room is dropped. Of the public
-- functions only the lists' `add` cites this (`push_snippet`, `push_sequence`); what the lists are is in Reading.antt.
use Rattle.std.specs.Prelude.{ℕ, ◌+◌, cond, List, [], ◌∷◌, ltb, set}
use Rattle.reader.specs.declared.Runs.{Runs}

module _ {A : Type 0} {most : ℕ} where
  -- one element more
  unfoldable pub push_item : Runs A most → A → Runs A most
  push_item o x = cond (ltb o.len 96) (record { items = set o.items o.len x; len = o.len + 1; ends = o.ends; count = o.count }) o

  abbrev pub push_items : Runs A most → List A → Runs A most
  push_items o [] = o
  push_items o (x ∷ xs) = push_items (push_item o x) xs

  -- a list ends here
  unfoldable pub end_run : Runs A most → Runs A most
  end_run o = cond (ltb o.count most) (record { items = o.items; len = o.len; ends = set o.ends o.count o.len; count = o.count + 1 }) o
