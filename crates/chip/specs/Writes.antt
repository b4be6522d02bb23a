-- What a write does to the chip's waveform memory and its lock: document 02, CR 14. A `Chip` (src/lib.rt) is the chip's address on the bus, its hundred
-- bytes of memory, and whether they are unlocked; its other registers are not described.
use Rattle.std.specs.Prelude.{ℕ, suc, ◌+◌, ◌-◌, ◌≤◌, ◌<◌, ◌≡◌, ◌⊎◌, Bool, true, false, cond, ◌&&◌, List, [], ◌∷◌, ◌++◌, leb, eqb, length, take, set}
use Rattle.field.specs.Field.{flag_of}
use Rattle.registers.specs.Table.{address_of}
use Rattle.exchange.specs.declared.Exchange.{Exchange}
use Rattle.exchange.specs.Steps.{exchange}
use Rattle.chip.specs.declared.Chip.{Chip}

abbrev pub holding : Chip → List ℕ → Bool → Chip
holding c bytes unlocked = record { address = c.address; bytes = bytes; unlocked = unlocked }

-- a byte at its register: "the chip's hundred bytes and lock, which is bit 7 of MEM_CTL2, 0 for locked"; the memory stores "while unlocked and nothing
-- while locked", and behind its hundred bytes nothing either
unfoldable pub stored : Chip → ℕ → ℕ → Chip
stored c register b =
    cond (eqb register (address_of "MEM_CTL2")) (holding c c.bytes (flag_of b 7))
    (cond (leb (address_of "SNP_MEM_0") register && c.unlocked) (holding c (set c.bytes (register - address_of "SNP_MEM_0") b) true) c)

-- "a memory write stores consecutive bytes": each at the register behind the one before
abbrev pub stored_all : Chip → ℕ → List ℕ → Chip
stored_all c register [] = c
stored_all c register (b ∷ bytes) = stored_all (stored c register b) (suc register) bytes

-- bytes that reach the chip in one exchange: the first is the register
abbrev pub written : Chip → List ℕ → Chip
written c [] = c
written c (register ∷ bytes) = stored_all c register bytes

-- "a failed write may have stored any leading part of its bytes": what an exchange leaves of which the first k bytes reach the bus; those for another
-- address do not reach the chip
unfoldable pub reached : ℕ → Chip → Exchange → Chip
reached k c e = cond (eqb e.address c.address) (written c (take k (take e.len e.bytes))) c

-- all of them
abbrev pub reached_all : Chip → Exchange → Chip
reached_all c e = reached e.len c e

-- the same byte by byte, with the addresses said again here
pub record ByteByByte : Type 0 where
  pub lock : (c : Chip) (b : ℕ) → b < 256 → stored c 0x2D b ≡ holding c c.bytes (leb 128 b)
  pub unlocked : (c : Chip) (i b : ℕ) → c.unlocked ≡ true → stored c (0x84 + i) b ≡ holding c (set c.bytes i b) true
  pub locked : (c : Chip) (i b : ℕ) → c.unlocked ≡ false → stored c (0x84 + i) b ≡ c
  pub elsewhere : (c : Chip) (register b : ℕ) → length c.bytes ≡ 100 → ¬ (register ≡ 0x2D) → (register < 0x84) ⊎ (0xE7 < register) → stored c register b ≡ c
  -- each byte goes to the register behind the one before
  pub nothing : (c : Chip) (register : ℕ) → stored_all c register [] ≡ c
  pub next : (c : Chip) (register b : ℕ) (bytes : List ℕ) →
      stored_all c register (bytes ++ (b ∷ [])) ≡ stored (stored_all c register bytes) (register + length bytes) b
  -- to another chip there goes nothing; to this one the register of a write first, and then what is behind it
  pub other : (k : ℕ) (c : Chip) (e : Exchange) → ¬ (e.address ≡ c.address) → reached k c e ≡ c
  pub none : (c : Chip) (e : Exchange) → reached 0 c e ≡ c
  pub parts : (k : ℕ) (c : Chip) (register : ℕ) (bytes : List ℕ) → reached (suc k) c (exchange c.address (register ∷ bytes) 0) ≡ stored_all c register (take k bytes)
  pub all : (c : Chip) (register : ℕ) (bytes : List ℕ) → reached_all c (exchange c.address (register ∷ bytes) 0) ≡ stored_all c register bytes
  -- a read sends the register alone: it changes nothing, so any may be made between the runs
  pub reads : (k : ℕ) (c : Chip) (e : Exchange) → e.len ≤ 1 → reached k c e ≡ c
