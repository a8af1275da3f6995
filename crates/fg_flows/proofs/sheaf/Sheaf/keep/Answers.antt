use Rattle.std.proofs.Common.{◌≡◌, ◌+◌, ◌<◌, ◌≤◌, ◌++◌, ℕ, Bool, true, cond, List, [], ◌∷◌, length, get_or, set, ap, refl, ◌∙◌}
use Rattle.std.specs.Global.{Vec}
use Rattle.std.specs.Vec.{vec_capacity, vec_len}
use Rattle.fg_flows.specs.declared.sheaf.Entry.{Entry}
use Rattle.fg_flows.specs.Sheaf.{HasRoom, SheafState, with_item}
use Rattle.fg_flows.specs.Entries.{AreHeld, said_by}
use Rattle.fg_flows.proofs.SheafLemmas.{entry_pushed, flow_within, held_with, item_with, kept_room, payload_copied, said_with}
use Rattle.fg_flows.proofs.sheaf.Sheaf.keep.Goals as goal

-- A payload is copied behind the bytes, and its entry is pushed behind those of a flow: there is room for both. So what is kept is
-- as it has to be, and it says the batch with one record more.
kept :
    (bytes more : Vec ℕ) (flows : List (Vec Entry)) (sheaf : SheafState) (count flow : ℕ) (payload : List ℕ) (old new : Vec Entry)
    (entry : Entry) (copied pushed : Bool) → AreHeld bytes flows count → said_by bytes.items flows ≡ sheaf
    → flow < length sheaf.items → HasRoom sheaf payload → old ≡ get_or flows flow old
    → more.items ≡ cond copied (bytes.items ++ payload) bytes.items
    → (vec_len bytes + length payload ≤ vec_capacity bytes → copied ≡ true) → vec_capacity bytes ≤ vec_capacity more
    → new.items ≡ cond pushed (old.items ++ entry ∷ []) old.items
    → (vec_len old < vec_capacity old → pushed ≡ true) → vec_capacity old ≤ vec_capacity new
    → entry.start ≡ length bytes.items → entry.len ≡ length payload
    → AreHeld more (set flows flow new) (count + 1)
    × (said_by more.items (set flows flow new) ≡ with_item sheaf flow (item_with entry payload))
kept bytes more flows sheaf count flow payload old new entry copied pushed held view of_batch has_room is copies succeeds wider
    pushes gets_in roomier start len =
    let within = flow_within bytes.items flows sheaf flow view of_batch in
    let room = kept_room bytes flows sheaf count payload held view has_room in
    let all = payload_copied bytes more payload copied room.1 held.room copies succeeds in
    let one_more = entry_pushed bytes flows count flow old new entry pushed held room.0 within is pushes gets_in in (
      held_with bytes more payload flows count flow old new entry held within is all wider one_more roomier start len room.1,
      ap (λ (all : List ℕ). said_by all (set flows flow new)) all
          ∙ said_with bytes.items payload flows flow old new entry held.within within is one_more start len
          ∙ ap (λ (sheaf : SheafState). with_item sheaf flow (item_with entry payload)) view,
    )

pub invariant_of-self : goal.invariant_of-self
invariant_of-self c =
    (kept _ c.extend_from_slice-copied.new.self _ _ _ c.args.flow c.args.payload.now _ _ _ _ _ c.self.invariant c.self.view_is
    c.requires.flow c.requires.room c.index_mut.ensures.value c.extend_from_slice-copied.ensures.items
    c.extend_from_slice-copied.ensures.succeeds c.extend_from_slice-copied.ensures.capacity c.push-kept.ensures.items
    c.push-kept.ensures.succeeds c.push-kept.ensures.capacity (c.len.ensures ∙ c.self.inside.bytes.ok.0) refl).0

pub returns : goal.returns
returns c =
    (kept _ c.extend_from_slice-copied.new.self _ _ _ c.args.flow c.args.payload.now _ _ _ _ _ c.self.invariant c.self.view_is
    c.requires.flow c.requires.room c.index_mut.ensures.value c.extend_from_slice-copied.ensures.items
    c.extend_from_slice-copied.ensures.succeeds c.extend_from_slice-copied.ensures.capacity c.push-kept.ensures.items
    c.push-kept.ensures.succeeds c.push-kept.ensures.capacity (c.len.ensures ∙ c.self.inside.bytes.ok.0) refl).1
