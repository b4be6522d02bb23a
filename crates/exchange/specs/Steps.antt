-- The steps of an operation, and the exchange that a step is: document 01, 'Exchanges'.
use Rattle.std.specs.Prelude.{ℕ, ◌+◌, ◌-◌, ◌%◌, min, List, [], ◌∷◌, ◌++◌, length, take, drop, get_or, replicate}
use Rattle.field.specs.Field.{with_of}
use Rattle.registers.specs.Table.{address_of}
use Rattle.exchange.specs.declared.Step.{Step}
use Rattle.exchange.specs.declared.Step.TheVariants.{Write, Read, Update, Match, Chunk, Store}
use Rattle.exchange.specs.declared.Exchange.{Exchange}

-- "one exchange (chip address, bytes to send, 0 or 1 bytes wanted)"; the bytes stand at the front of 33, and no bytes is no exchange
abbrev pub exchange : ℕ → List ℕ → ℕ → Exchange
exchange address bytes wanted = record { address = address; bytes = bytes ++ replicate (33 - length bytes) 0; len = length bytes; wanted = wanted }

-- "from address 84 (hexadecimal)"; no index below 100 reaches 256
abbrev pub memory_address : ℕ → ℕ
memory_address i = (address_of "SNP_MEM_0" + i) % 256

-- "in chunks of 32"
abbrev pub chunk : List ℕ → ℕ → ℕ → List ℕ
chunk image offset len = take (min len 32) (drop offset image)

-- the exchange that a step is, where `last` is the byte read last and `image` what is uploaded
abbrev pub exchange_for : ℕ → ℕ → List ℕ → Step → Exchange
exchange_for address last image (Write register value) = exchange address (register ∷ value ∷ []) 0
exchange_for address last image (Read register) = exchange address (register ∷ []) 1
exchange_for address last image (Update register shift width value) = exchange address (register ∷ with_of last shift width value ∷ []) 0
exchange_for address last image (Match register value) = exchange address (register ∷ []) 1
exchange_for address last image (Chunk offset len) = exchange address (memory_address offset ∷ chunk image offset len) 0
exchange_for address last image (Store index) = exchange address (memory_address index ∷ []) 1

-- ---- a step in five bytes

abbrev pub step_bytes : Step → List ℕ
step_bytes (Write register value) = 0 ∷ register ∷ value ∷ 0 ∷ 0 ∷ []
step_bytes (Read register) = 1 ∷ register ∷ 0 ∷ 0 ∷ 0 ∷ []
step_bytes (Update register shift width value) = 2 ∷ register ∷ value ∷ shift ∷ width ∷ []
step_bytes (Match register value) = 3 ∷ register ∷ value ∷ 0 ∷ 0 ∷ []
step_bytes (Chunk offset len) = 4 ∷ offset ∷ len ∷ 0 ∷ 0 ∷ []
step_bytes (Store index) = 5 ∷ index ∷ 0 ∷ 0 ∷ 0 ∷ []

-- a kind past the last counts as the last
abbrev pub step_of : ℕ → ℕ → ℕ → ℕ → ℕ → Step
step_of kind a b c d = get_or (Write a b ∷ Read a ∷ Update a c d b ∷ Match a b ∷ Chunk a b ∷ []) kind (Store a)
