-- Internal: no public contract cites this.
-- The keys and texts that a memo remembers, and the memory that it uses.
use Rattle.std.specs.Prelude.{◌≡◌, ℕ, ◌+◌, ◌*◌, ◌<◌, ◌≤◌, List, length, take, drop, vec_capacity}
use Rattle.std.specs.List.{All}
use Rattle.text_memo.specs.declared.Entry.{Entry}
use Rattle.text_memo.specs.declared.Pair.{Pair}
use Rattle.text_memo.specs.declared.TextMemo.{TextMemo}

-- the key of an entry, within these bytes
abbrev pub key_of : List ℕ → Entry → List ℕ
key_of bytes entry = take entry.key_len (drop entry.start bytes)

-- the text of an entry, which follows the key
abbrev pub entry_text : List ℕ → Entry → List ℕ
entry_text bytes entry = take entry.text_len (drop (entry.start + entry.key_len) bytes)

-- if the entry has a key, the key and the text are within the bytes, and the text is that of the key
abbrev pub Holds : (List ℕ → List ℕ) → List ℕ → Entry → Type 0
Holds text_for bytes entry = 0 < entry.key_len → (entry.start + entry.key_len + entry.text_len ≤ length bytes) × (entry_text bytes entry ≡ text_for (key_of bytes entry))

abbrev pub HoldsBoth : (List ℕ → List ℕ) → List ℕ → Pair → Type 0
HoldsBoth text_for bytes pair = Holds text_for bytes pair.newer × Holds text_for bytes pair.older

-- the text of each entry is that of its key
abbrev pub Remembers : (List ℕ → List ℕ) → TextMemo → Type 0
Remembers text_for memo = All (HoldsBoth text_for memo.bytes.items) memo.pairs.items

-- the bytes that its vectors have allocated: a pair takes 24, and a fingerprint 4
abbrev pub allocated : TextMemo → ℕ
allocated memo = 24 * vec_capacity memo.pairs + vec_capacity memo.bytes + 4 * (vec_capacity memo.noted + vec_capacity memo.too_long)

-- the vectors of fingerprints have at most this many slots
abbrev pub HasFewFingerprints : TextMemo → Type 0
HasFewFingerprints memo = (vec_capacity memo.noted ≤ 8192) × (vec_capacity memo.too_long ≤ 8192)

-- each vector has at most this many slots, so all of them have allocated at most 4,456,448 bytes
abbrev pub IsSmall : TextMemo → Type 0
IsSmall memo = (vec_capacity memo.pairs ≤ 8192) × (vec_capacity memo.bytes ≤ 4194304) × HasFewFingerprints memo

-- a change of the entries alone
abbrev pub SameFingerprints : TextMemo → TextMemo → Type 0
SameFingerprints old new = (new.noted ≡ old.noted) × (new.too_long ≡ old.too_long)
