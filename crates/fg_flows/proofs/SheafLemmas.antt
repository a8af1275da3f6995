-- Records that are added, and records that are let go.
use Rattle.std.proofs.Common.{◌≡◌, ℕ, ◌+◌, ◌-◌, ◌<◌, ◌≤◌, List, [], ◌∷◌, ◌++◌, Bool, true, false, cond, Some, inl, inr, length, map, get_or, set, take, drop, refl, sym, ap, subst, ◌∙◌, arith}
use Rattle.std.specs.Global.{Vec}
use Rattle.std.specs.List.{All, slice_get, slice_range}
use Rattle.std.specs.Vec.{vec_capacity, vec_len}
use Rattle.std.proofs.lemmas.Bool.{cases_lt, false≢true}
use Rattle.std.proofs.lemmas.Option.{slice_get-get_or}
use Rattle.std.proofs.lemmas.List.{get_or_past, take_all, take-append-le, drop-append-le, map-append, map-set, get_or-map, length-append, length-drop, length-map}
use Rattle.std.proofs.lemmas.List.Elements.{All-head, All-tail, All-nil, All-get_or, All-push, All-same, All-set, All-weaker}
use Rattle.std.proofs.lemmas.List.Folds.{sum_by-replicate}
use Rattle.std.proofs.lemmas.List.Sums.{sum_by-set, sum_by_push, get_or-le-sum_by}
use Rattle.std.proofs.lemmas.Simd.{splat_is_map}
use Rattle.std.proofs.Math.Seq.{drop-append_seam}
use Rattle.fg_flows.specs.declared.sheaf.Entry.{Entry}
use Rattle.fg_flows.specs.Sheaf.{HasRoom, Item, SheafState, items_of, payload_bytes, item_count, byte_count, no_items, with_item}
use Rattle.fg_flows.specs.Entries.{item_in, items_in, said_by, AreWithin, AreEmpty, HaveRoom, AreHeld}

-- a batch with these records
abbrev pub state_of : List (List Item) → SheafState
state_of items = record { items = items }

-- functions that agree at each element of a list
pub map_alike : {X Y : Type 0} (f g : X → Y) (xs : List X) → All (λ x. f x ≡ g x) xs → map f xs ≡ map g xs
map_alike f g [] alike = refl
map_alike f g (x ∷ xs) alike =
    ap (λ y. y ∷ map f xs) (All-head (λ x. f x ≡ g x) x xs alike)
    ∙ ap (λ ys. g x ∷ ys) (map_alike f g xs (All-tail (λ x. f x ≡ g x) x xs alike))

-- a part of bytes behind which more is put
pub slice_range-append : (bytes more : List ℕ) (from to : ℕ) → from ≤ to → to ≤ length bytes → slice_range (bytes ++ more) from to ≡ slice_range bytes from to
slice_range-append bytes more from to order within =
    let start : from ≤ length bytes = omega arith in
    let size : to - from ≤ length (drop from bytes) = rw length-drop (omega arith) in
    ap (take (to - from)) (drop-append-le from bytes more start) ∙ take-append-le (to - from) (drop from bytes) more size

-- what is put behind bytes
pub slice_range-behind : (bytes more : List ℕ) → slice_range (bytes ++ more) (length bytes) (length bytes + length more) ≡ more
slice_range-behind bytes more =
    let size : length more ≤ (length bytes + length more) - length bytes = omega arith in
    ap (take ((length bytes + length more) - length bytes)) (drop-append_seam bytes more) ∙ take_all ((length bytes + length more) - length bytes) more size

-- an entry with this payload
abbrev pub item_with : Entry → List ℕ → Item
item_with entry payload = record { kind = entry.kind; time = entry.time; payload = payload }

-- what entries tell of stays when more bytes are put behind those of their payloads
pub item_in-append : (bytes more : List ℕ) (entry : Entry) → entry.start + entry.len ≤ length bytes → item_in (bytes ++ more) entry ≡ item_in bytes entry
item_in-append bytes more entry within =
    ap (λ (payload : List ℕ). item_with entry payload) (slice_range-append bytes more entry.start (entry.start + entry.len) (omega arith) within)

pub items_in-append : (bytes more : List ℕ) (entries : Vec Entry) → AreWithin (length bytes) entries → items_in (bytes ++ more) entries ≡ items_in bytes entries
items_in-append bytes more entries within =
    map_alike (item_in (bytes ++ more)) (item_in bytes) entries.items
    (All-weaker (λ entry. entry.start + entry.len ≤ length bytes) (λ entry. item_in (bytes ++ more) entry ≡ item_in bytes entry) (item_in-append bytes more) entries.items within)

pub all_in-append : (bytes more : List ℕ) (flows : List (Vec Entry)) → All (AreWithin (length bytes)) flows → map (items_in (bytes ++ more)) flows ≡ map (items_in bytes) flows
all_in-append bytes more flows within =
    map_alike (items_in (bytes ++ more)) (items_in bytes) flows
    (All-weaker (AreWithin (length bytes)) (λ entries. items_in (bytes ++ more) entries ≡ items_in bytes entries) (items_in-append bytes more) flows within)

-- an entry for a payload that is put behind the bytes
pub item_in-behind : (bytes payload : List ℕ) (entry : Entry) → entry.start ≡ length bytes → entry.len ≡ length payload → item_in (bytes ++ payload) entry ≡ item_with entry payload
item_in-behind bytes payload entry start len =
    ap (λ (part : List ℕ). item_with entry part)
    (ap (λ from. slice_range (bytes ++ payload) from (from + entry.len)) start
    ∙ ap (λ size. slice_range (bytes ++ payload) (length bytes) (length bytes + size)) len
    ∙ slice_range-behind bytes payload)

-- the records of a flow, as its entries tell of them
pub items_of-said : (bytes : List ℕ) (flows : List (Vec Entry)) (flow : ℕ) (entries : Vec Entry) → flow < length flows → entries ≡ get_or flows flow entries → items_of (said_by bytes flows) flow ≡ items_in bytes entries
items_of-said bytes flows flow entries within is = get_or-map (items_in bytes) flows flow entries [] within ∙ ap (items_in bytes) (sym is)

-- the records of a flow with one more entry, for a payload that is put behind the bytes
pub items_in-with : (bytes payload : List ℕ) (old new : Vec Entry) (entry : Entry) → AreWithin (length bytes) old → new.items ≡ old.items ++ entry ∷ [] → entry.start ≡ length bytes → entry.len ≡ length payload
    → items_in (bytes ++ payload) new ≡ items_in bytes old ++ item_with entry payload ∷ []
items_in-with bytes payload old new entry within pushed start len =
    ap (map (item_in (bytes ++ payload))) pushed
    ∙ map-append (item_in (bytes ++ payload)) old.items (entry ∷ [])
    ∙ ap (λ items. items ++ item_in (bytes ++ payload) entry ∷ []) (items_in-append bytes payload old within)
    ∙ ap (λ item. items_in bytes old ++ item ∷ []) (item_in-behind bytes payload entry start len)

-- the batch with that entry
pub said_with : (bytes payload : List ℕ) (flows : List (Vec Entry)) (flow : ℕ) (old new : Vec Entry) (entry : Entry) → All (AreWithin (length bytes)) flows → flow < length flows → old ≡ get_or flows flow old
    → new.items ≡ old.items ++ entry ∷ [] → entry.start ≡ length bytes → entry.len ≡ length payload
    → said_by (bytes ++ payload) (set flows flow new) ≡ with_item (said_by bytes flows) flow (item_with entry payload)
said_with bytes payload flows flow old new entry all within is pushed start len =
    let old_within : AreWithin (length bytes) old = subst (AreWithin (length bytes)) (sym is) (All-get_or (AreWithin (length bytes)) flows flow old within all) in
    let grown = items_in-with bytes payload old new entry old_within pushed start len
    ∙ ap (λ items. items ++ item_with entry payload ∷ []) (sym (items_of-said bytes flows flow old within is)) in
    ap state_of
    (map-set (items_in (bytes ++ payload)) flows flow new
    ∙ ap (λ items. set items flow (items_in (bytes ++ payload) new)) (all_in-append bytes payload flows all)
    ∙ ap (λ items. set (map (items_in bytes) flows) flow items) grown)

-- a batch has one record more, with its payload's bytes
pub item_count-with : (sheaf : SheafState) (flow : ℕ) (item : Item) → flow < length sheaf.items → item_count (with_item sheaf flow item) ≡ item_count sheaf + 1
item_count-with sheaf flow item within =
    let swapped = sum_by-set length sheaf.items flow (items_of sheaf flow ++ item ∷ []) [] within in
    let more = length-append (items_of sheaf flow) (item ∷ []) in
    omega (arith, swapped, more)

pub byte_count-with : (sheaf : SheafState) (flow : ℕ) (item : Item) → flow < length sheaf.items → byte_count (with_item sheaf flow item) ≡ byte_count sheaf + length item.payload
byte_count-with sheaf flow item within =
    let swapped = sum_by-set payload_bytes sheaf.items flow (items_of sheaf flow ++ item ∷ []) [] within in
    let more = sum_by_push (λ (item : Item). length item.payload) (items_of sheaf flow) item in
    omega (arith, swapped, more)

-- a flow has no more records than there are
pub few_of_flow : (bytes : List ℕ) (flows : List (Vec Entry)) (count flow : ℕ) (entries : Vec Entry) → item_count (said_by bytes flows) ≡ count → flow < length flows → entries ≡ get_or flows flow entries → length entries.items ≤ count
few_of_flow bytes flows count flow entries counted within is =
    let inside : flow < length (map (items_in bytes) flows) = rw length-map within in
    let least = get_or-le-sum_by length (map (items_in bytes) flows) flow [] inside in
    let same = ap length (items_of-said bytes flows flow entries within is) ∙ length-map entries.items (item_in bytes) in
    omega (arith, least, same, counted)

-- what is kept of a batch with one more record
pub held_with : (bytes more : Vec ℕ) (payload : List ℕ) (flows : List (Vec Entry)) (count flow : ℕ) (old new : Vec Entry) (entry : Entry) → AreHeld bytes flows count → flow < length flows → old ≡ get_or flows flow old
    → more.items ≡ bytes.items ++ payload → vec_capacity bytes ≤ vec_capacity more
    → new.items ≡ old.items ++ entry ∷ [] → vec_capacity old ≤ vec_capacity new
    → entry.start ≡ length bytes.items → entry.len ≡ length payload → length bytes.items + length payload ≤ 1048576
    → AreHeld more (set flows flow new) (count + 1)
held_with bytes more payload flows count flow old new entry held within is copied capacity pushed room start len fits =
    let size : length more.items ≡ length bytes.items + length payload = ap length copied ∙ length-append bytes.items payload in
    let wider : (entries : Vec Entry) → AreWithin (length bytes.items) entries → AreWithin (length more.items) entries =
    λ entries inside. All-weaker (λ (entry : Entry). entry.start + entry.len ≤ length bytes.items) (λ entry. entry.start + entry.len ≤ length more.items) (λ entry below. omega (arith, below, size)) entries.items inside in
    let old_within : AreWithin (length bytes.items) old = subst (AreWithin (length bytes.items)) (sym is) (All-get_or (AreWithin (length bytes.items)) flows flow old within held.within) in
    let last : entry.start + entry.len ≤ length more.items = omega (arith, start, len, size) in
    let new_within : AreWithin (length more.items) new = All-same (λ (entry : Entry). entry.start + entry.len ≤ length more.items) new.items (old.items ++ entry ∷ []) pushed (All-push (λ (entry : Entry). entry.start + entry.len ≤ length more.items) old.items entry (wider old old_within) last) in
    let old_room : 256 ≤ vec_capacity old = subst (λ (entries : Vec Entry). 256 ≤ vec_capacity entries) (sym is) (All-get_or (λ (entries : Vec Entry). 256 ≤ vec_capacity entries) flows flow old within held.rooms) in
    let said : said_by more.items (set flows flow new) ≡ with_item (said_by bytes.items flows) flow (item_with entry payload) =
    ap (λ (bytes : List ℕ). said_by bytes (set flows flow new)) copied ∙ said_with bytes.items payload flows flow old new entry held.within within is pushed start len in
    let inside : flow < length (map (items_in bytes.items) flows) = rw length-map within in
    record {
      within = All-set (AreWithin (length more.items)) flows flow new new_within (All-weaker (AreWithin (length bytes.items)) (AreWithin (length more.items)) wider flows held.within);
      counted = ap item_count said ∙ item_count-with (said_by bytes.items flows) flow (item_with entry payload) inside ∙ ap (λ n. n + 1) held.counted;
      used = ap byte_count said ∙ byte_count-with (said_by bytes.items flows) flow (item_with entry payload) inside ∙ ap (λ n. n + length payload) held.used ∙ sym size;
      limit = omega (arith, size, fits);
      room = omega (arith, capacity, held.room);
      rooms = All-set (λ (entries : Vec Entry). 256 ≤ vec_capacity entries) flows flow new (omega (arith, room, old_room)) held.rooms;
    }

-- flows without entries have no records
pub nothing_said : (bytes : List ℕ) (flows : List (Vec Entry)) (count : ℕ) → AreEmpty flows → length flows ≡ count → said_by bytes flows ≡ no_items count
nothing_said bytes flows count empty size =
    ap state_of
    (map_alike (items_in bytes) (λ _. []) flows
    (All-weaker (λ (entries : Vec Entry). entries.items ≡ []) (λ entries. items_in bytes entries ≡ []) (λ entries none. ap (map (item_in bytes)) none) flows empty)
    ∙ sym (splat_is_map flows count [] size))

-- what is kept of no records
pub nothing_held : (bytes : Vec ℕ) (flows : List (Vec Entry)) → bytes.items ≡ [] → 1048576 ≤ vec_capacity bytes → AreEmpty flows → HaveRoom flows → AreHeld bytes flows 0
nothing_held bytes flows none room empty rooms =
    let said = nothing_said bytes.items flows (length flows) empty refl in
    let size : length bytes.items ≡ 0 = ap length none in
    record {
      within = All-weaker (λ (entries : Vec Entry). entries.items ≡ []) (AreWithin (length bytes.items))
          (λ entries nothing. All-same (λ (entry : Entry). entry.start + entry.len ≤ length bytes.items) entries.items [] nothing (All-nil (λ (entry : Entry). entry.start + entry.len ≤ length bytes.items)))
          flows empty;
      counted = ap item_count said ∙ sum_by-replicate length (length flows) [] ∙ omega arith;
      used = ap byte_count said ∙ sum_by-replicate payload_bytes (length flows) [] ∙ omega (arith, size);
      limit = omega (arith, size);
      room = room;
      rooms = rooms;
    }

-- an entry of a flow lies within the bytes
pub within_of : (bytes : Vec ℕ) (flows : List (Vec Entry)) (count flow k : ℕ) (entries : Vec Entry) (entry : Entry) → AreHeld bytes flows count → flow < length flows → entries ≡ get_or flows flow entries
    → k < length entries.items → entry ≡ get_or entries.items k entry → entry.start + entry.len ≤ length bytes.items
within_of bytes flows count flow k entries entry held within is inside entry_is =
    let all : AreWithin (length bytes.items) entries = subst (AreWithin (length bytes.items)) (sym is) (All-get_or (AreWithin (length bytes.items)) flows flow entries within held.within) in
    subst (λ (entry : Entry). entry.start + entry.len ≤ length bytes.items) (sym entry_is) (All-get_or (λ (entry : Entry). entry.start + entry.len ≤ length bytes.items) entries.items k entry inside all)

-- a choice whose test holds
pub if_so : {X : Type 0} (test : Bool) (then other chosen : X) → chosen ≡ cond test then other → test ≡ true → chosen ≡ then
if_so true then other chosen is so = is
if_so false then other chosen is so = absurd (false≢true so)

-- the flows of the batch are those whose entries are kept
pub flow_within : (bytes : List ℕ) (flows : List (Vec Entry)) (sheaf : SheafState) (flow : ℕ) → said_by bytes flows ≡ sheaf → flow < length sheaf.items → flow < length flows
flow_within bytes flows sheaf flow view within =
    let same : length sheaf.items ≡ length flows = ap (λ (sheaf : SheafState). length sheaf.items) (sym view) ∙ length-map flows (items_in bytes) in
    omega (arith, within, same)

-- a flow that has a record is one of the batch
pub flow_of_record : (sheaf : SheafState) (flow k : ℕ) → k < length (items_of sheaf flow) → flow < length sheaf.items
flow_of_record sheaf flow k within =
    elim (cases_lt flow (length sheaf.items)) [
      | inl less ↦ less
      | inr past ↦ absurd (omega (arith, within, ap length (get_or_past sheaf.items flow [] past)))
    ]

-- the record that an entry tells of
pub record_found : (bytes : List ℕ) (flows : List (Vec Entry)) (sheaf : SheafState) (flow k : ℕ) (entries : Vec Entry) (entry : Entry) → said_by bytes flows ≡ sheaf → k < length (items_of sheaf flow)
    → entries ≡ get_or flows flow entries → entry ≡ get_or entries.items k entry → slice_get (items_of sheaf flow) k ≡ Some (item_in bytes entry)
record_found bytes flows sheaf flow k entries entry view within is entry_is =
    let flow_in = flow_within bytes flows sheaf flow view (flow_of_record sheaf flow k within) in
    let same : items_of sheaf flow ≡ items_in bytes entries = ap (λ (sheaf : SheafState). items_of sheaf flow) (sym view) ∙ items_of-said bytes flows flow entries flow_in is in
    let inside : k < length (items_in bytes entries) = subst (λ (items : List Item). k < length items) same within in
    let entry_in : k < length entries.items = omega (arith, inside, length-map entries.items (item_in bytes)) in
    ap (λ (items : List Item). slice_get items k) same
    ∙ slice_get-get_or (items_in bytes entries) k (item_in bytes entry) inside
    ∙ ap (λ (item : Item). Some item) (get_or-map (item_in bytes) entries.items k entry (item_in bytes entry) entry_in ∙ ap (item_in bytes) (sym entry_is))

-- the same where the parts of the bytes are named
pub record_lent : (bytes lent : List ℕ) (entry : Entry) (len : ℕ) → lent ≡ bytes → len ≡ entry.len → item_in bytes entry ≡ item_with entry (take ((entry.start + len) - entry.start) (drop entry.start lent))
record_lent bytes lent entry len same size =
    ap (λ (part : List ℕ). item_with entry part)
    (ap (λ n. take ((entry.start + n) - entry.start) (drop entry.start bytes)) (sym size) ∙ ap (λ (bytes : List ℕ). take ((entry.start + len) - entry.start) (drop entry.start bytes)) (sym same))

-- each flow has room for all records
pub room_of : (flows : List (Vec Entry)) (flow : ℕ) (entries : Vec Entry) → flow < length flows → entries ≡ get_or flows flow entries → HaveRoom flows → 256 ≤ vec_capacity entries
room_of flows flow entries within is rooms =
    subst (λ (entries : Vec Entry). 256 ≤ vec_capacity entries) (sym is) (All-get_or (λ (entries : Vec Entry). 256 ≤ vec_capacity entries) flows flow entries within rooms)

-- a payload is copied where there is room for it
pub payload_copied : (bytes more : Vec ℕ) (payload : List ℕ) (done : Bool) → length bytes.items + length payload ≤ 1048576 → 1048576 ≤ vec_capacity bytes
    → more.items ≡ cond done (bytes.items ++ payload) bytes.items → (vec_len bytes + length payload ≤ vec_capacity bytes → done ≡ true) → more.items ≡ bytes.items ++ payload
payload_copied bytes more payload done fits room is succeeds =
    if_so done (bytes.items ++ payload) bytes.items more.items is (succeeds (omega (arith, fits, room, bytes.ok.0)))

-- an entry is pushed where fewer than 256 are counted
pub entry_pushed : (bytes : Vec ℕ) (flows : List (Vec Entry)) (count flow : ℕ) (old new : Vec Entry) (entry : Entry) (done : Bool) → AreHeld bytes flows count → count < 256 → flow < length flows → old ≡ get_or flows flow old
    → new.items ≡ cond done (old.items ++ entry ∷ []) old.items → (vec_len old < vec_capacity old → done ≡ true) → new.items ≡ old.items ++ entry ∷ []
entry_pushed bytes flows count flow old new entry done held less within old_is is succeeds =
    let few = few_of_flow bytes.items flows count flow old held.counted within old_is in
    let wide = room_of flows flow old within old_is held.rooms in
    if_so done (old.items ++ entry ∷ []) old.items new.items is (succeeds (omega (arith, few, wide, less, old.ok.0)))

-- a batch that has room for a record, as it is kept
pub kept_room : (bytes : Vec ℕ) (flows : List (Vec Entry)) (sheaf : SheafState) (count : ℕ) (payload : List ℕ) → AreHeld bytes flows count → said_by bytes.items flows ≡ sheaf → HasRoom sheaf payload
    → (count < 256) × (length bytes.items + length payload ≤ 1048576)
kept_room bytes flows sheaf count payload held view room =
    let records = ap item_count view in
    let used = ap byte_count view in
    (omega (arith, records, held.counted, room.records), omega (arith, used, held.used, room.bytes))
