-- How the records of a batch are kept. No public contract cites it.
use Rattle.std.specs.Prelude.{◌≡◌, ◌+◌, ◌≤◌, ℕ, List, [], All, length, map, slice_range, vec_capacity}
use Rattle.std.specs.Global.{Vec}
use Rattle.fg_flows.specs.declared.sheaf.Entry.{Entry}
use Rattle.fg_flows.specs.Sheaf.{Item, SheafState, item_count, byte_count}

-- The record that an entry tells of, whose payload lies in these bytes.
abbrev pub item_in : List ℕ → Entry → Item
item_in bytes entry =
    record { kind = entry.kind; time = entry.time; payload = slice_range bytes entry.start (entry.start + entry.len) }

-- The records that a flow's entries tell of.
abbrev pub items_in : List ℕ → Vec Entry → List Item
items_in bytes entries = map (item_in bytes) entries.items

-- The records that the entries of all flows tell of.
abbrev pub said_by : List ℕ → List (Vec Entry) → SheafState
said_by bytes flows = record { items = map (items_in bytes) flows }

-- The payload of each entry lies within so many bytes.
abbrev pub AreWithin : ℕ → Vec Entry → Type 0
AreWithin size entries = All (λ entry. entry.start + entry.len ≤ size) entries.items

-- No flow has an entry.
abbrev pub AreEmpty : List (Vec Entry) → Type 0
AreEmpty flows = All (λ entries. entries.items ≡ []) flows

-- In each flow there is room for 256 entries, those that it has included.
abbrev pub HaveRoom : List (Vec Entry) → Type 0
HaveRoom flows = All (λ entries. 256 ≤ vec_capacity entries) flows

-- Each payload lies within the bytes, which are the payloads' alone, as many entries are counted as there are, and there is
-- room for as much as may be held.
pub record AreHeld (bytes : Vec ℕ) (flows : List (Vec Entry)) (count : ℕ) : Type 0 where
  pub within : All (AreWithin (length bytes.items)) flows
  pub counted : item_count (said_by bytes.items flows) ≡ count
  pub used : byte_count (said_by bytes.items flows) ≡ length bytes.items
  pub limit : length bytes.items ≤ 1048576
  pub room : 1048576 ≤ vec_capacity bytes
  pub rooms : HaveRoom flows
