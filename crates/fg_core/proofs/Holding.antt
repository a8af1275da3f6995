-- What a flow holds, where it is read or written through its box.
use Rattle.std.proofs.Common.{◌≡◌, ap}
use Rattle.fg_core.specs.declared.flow.Held.{Held}

pub desk_of : {one other : Held} → one ≡ other → one.desk ≡ other.desk
desk_of same = ap (λ (h : Held). h.desk) same

pub notes_of : {one other : Held} → one ≡ other → one.notes ≡ other.notes
notes_of same = ap (λ (h : Held). h.notes) same
