-- TRIM4: document 01, 'Settings to registers', "TRIM4, with L in µH: cap code .. The resistance code follows whole ohms".
use Rattle.std.specs.Prelude.{ℕ, ◌-◌, ◌/◌, min, cond, List, [], ◌∷◌, leb, get_or}
use Rattle.field.specs.Layout.{with_at}
use Rattle.registers.specs.Table.{parts_of}

-- "cap code 3 to 17, 2 to 27, 1 to 40, else 0"
abbrev pub cap_code : ℕ → ℕ
cap_code uH = cond (leb uH 17) 3 (cond (leb uH 27) 2 (cond (leb uH 40) 1 0))

-- "column min(9, max(0, L − 13) / 25)"; what is subtracted from less is 0
abbrev pub column : ℕ → ℕ
column uH = min 9 ((uH - 13) / 25)

-- a row of the table: up to this many whole ohms, and its codes, one for each column
pub data TrimRow : Type 0 where
  up_to : ℕ → List ℕ → TrimRow

-- "rows as in `configure`'s `match`"
abbrev pub trim_rows : List TrimRow
trim_rows =
    up_to 5 (2 ∷ 2 ∷ 3 ∷ 3 ∷ 3 ∷ 3 ∷ 3 ∷ 3 ∷ 3 ∷ 3 ∷ []) ∷ up_to 7 (1 ∷ 2 ∷ 2 ∷ 3 ∷ 3 ∷ 3 ∷ 3 ∷ 3 ∷ 3 ∷ 3 ∷ [])
    ∷ up_to 9 (1 ∷ 2 ∷ 2 ∷ 2 ∷ 3 ∷ 3 ∷ 3 ∷ 3 ∷ 3 ∷ 3 ∷ []) ∷ up_to 11 (0 ∷ 1 ∷ 2 ∷ 2 ∷ 2 ∷ 3 ∷ 3 ∷ 3 ∷ 3 ∷ 3 ∷ [])
    ∷ up_to 13 (0 ∷ 1 ∷ 2 ∷ 2 ∷ 2 ∷ 2 ∷ 3 ∷ 3 ∷ 3 ∷ 3 ∷ []) ∷ up_to 15 (0 ∷ 1 ∷ 1 ∷ 2 ∷ 2 ∷ 2 ∷ 2 ∷ 3 ∷ 3 ∷ 3 ∷ [])
    ∷ up_to 17 (0 ∷ 1 ∷ 1 ∷ 2 ∷ 2 ∷ 2 ∷ 2 ∷ 2 ∷ 3 ∷ 3 ∷ []) ∷ up_to 19 (0 ∷ 0 ∷ 1 ∷ 1 ∷ 2 ∷ 2 ∷ 2 ∷ 2 ∷ 2 ∷ 3 ∷ [])
    ∷ up_to 21 (0 ∷ 1 ∷ 1 ∷ 2 ∷ 2 ∷ 2 ∷ 3 ∷ 3 ∷ 3 ∷ 3 ∷ []) ∷ up_to 23 (0 ∷ 1 ∷ 1 ∷ 2 ∷ 2 ∷ 2 ∷ 2 ∷ 3 ∷ 3 ∷ 3 ∷ [])
    ∷ up_to 25 (0 ∷ 1 ∷ 1 ∷ 2 ∷ 2 ∷ 2 ∷ 2 ∷ 3 ∷ 3 ∷ 3 ∷ []) ∷ up_to 27 (0 ∷ 1 ∷ 1 ∷ 2 ∷ 2 ∷ 2 ∷ 2 ∷ 2 ∷ 3 ∷ 3 ∷ [])
    ∷ up_to 31 (0 ∷ 1 ∷ 2 ∷ 2 ∷ 2 ∷ 3 ∷ 3 ∷ 3 ∷ 3 ∷ 3 ∷ []) ∷ up_to 33 (0 ∷ 1 ∷ 2 ∷ 2 ∷ 2 ∷ 2 ∷ 3 ∷ 3 ∷ 3 ∷ 3 ∷ [])
    ∷ up_to 35 (0 ∷ 1 ∷ 1 ∷ 2 ∷ 2 ∷ 2 ∷ 3 ∷ 3 ∷ 3 ∷ 3 ∷ []) ∷ up_to 41 (0 ∷ 1 ∷ 1 ∷ 2 ∷ 2 ∷ 2 ∷ 2 ∷ 3 ∷ 3 ∷ 3 ∷ [])
    ∷ up_to 45 (0 ∷ 1 ∷ 2 ∷ 2 ∷ 3 ∷ 3 ∷ 3 ∷ 3 ∷ 3 ∷ 3 ∷ []) ∷ []

-- "last row from 46 ohms"
abbrev pub row_at : ℕ → List TrimRow → List ℕ
row_at ohms [] = 0 ∷ 1 ∷ 2 ∷ 2 ∷ 2 ∷ 3 ∷ 3 ∷ 3 ∷ 3 ∷ 3 ∷ []
row_at ohms (up_to n codes ∷ rs) = cond (leb ohms n) codes (row_at ohms rs)

-- "The resistance code follows whole ohms, mOhm / 1000, and column"
abbrev pub resistance_code : ℕ → ℕ → ℕ
resistance_code mOhm uH = get_or (row_at (mOhm / 1000) trim_rows) (column uH) 0

-- both codes in their fields
abbrev pub trim4_byte : ℕ → ℕ → ℕ
trim4_byte mOhm uH = with_at (parts_of "TRIM4") "LOOP_FILT_RES_TRIM" (with_at (parts_of "TRIM4") "LOOP_FILT_CAP_TRIM" 0 (cap_code uH)) (resistance_code mOhm uH)
