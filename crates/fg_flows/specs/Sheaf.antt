-- The records of a batch, by flow: this project's own.
use Rattle.std.specs.Prelude.{◌+◌, ◌<◌, ◌≤◌, ℕ, List, [], ◌∷◌, ◌++◌, length, replicate, sum_by, slice_index_or, slice_set}
use Rattle.fg_shape.specs.declared.kind.Kind.{Kind}

-- A record of a flow: which of the flow's streams it belongs to, its time in microseconds, and the bytes of its datagram.
pub record Item : Type 0 where
  pub kind : Kind
  pub time : ℕ
  pub payload : List ℕ

-- The records of each flow, in the order in which they were added.
pub record SheafState : Type 0 where
  pub items : List (List Item)

-- The records of the flow with this number.
abbrev pub items_of : SheafState → ℕ → List Item
items_of sheaf flow = slice_index_or sheaf.items flow []

-- How many bytes the payloads of these records have.
abbrev pub payload_bytes : List Item → ℕ
payload_bytes items = sum_by (λ item. length item.payload) items

-- How many records there are of all flows, and how many bytes their payloads have.
abbrev pub item_count : SheafState → ℕ
item_count sheaf = sum_by length sheaf.items

abbrev pub byte_count : SheafState → ℕ
byte_count sheaf = sum_by payload_bytes sheaf.items

-- There is room for one more record, with this payload: there may be 256 records, with 1,048,576 bytes of payloads. The
-- limits are this project's own.
pub record HasRoom (sheaf : SheafState) (payload : List ℕ) : Type 0 where
  pub records : item_count sheaf < 256
  pub bytes : byte_count sheaf + length payload ≤ 1048576

-- There are so many flows, and no record of any.
abbrev pub no_items : ℕ → SheafState
no_items flows = record { items = replicate flows [] }

-- The flow has one more record, after its others. The other flows have what they had.
abbrev pub with_item : SheafState → ℕ → Item → SheafState
with_item sheaf flow item = record { items = slice_set sheaf.items flow (items_of sheaf flow ++ item ∷ []) }
