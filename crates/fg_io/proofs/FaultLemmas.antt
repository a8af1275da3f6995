-- What holds of a fault's answer.
use Rattle.std.proofs.Common.{Result, Ok, Err, OnOk, OnErr}

-- a fact for an `Err` that holds of any result
pub on_err : {T E : Type 0} (r : Result T E) (P : Type 0) → P → OnErr r P
on_err (Ok x) P p = tt
on_err (Err e) P p = p

-- a fact for an `Ok` that holds of any result
pub on_ok : {T E : Type 0} (r : Result T E) (P : Type 0) → P → OnOk r P
on_ok (Ok x) P p = p
on_ok (Err e) P p = tt

-- a result that says more
pub ok_more : {T E : Type 0} (r : Result T E) (P Q : Type 0) → (P → Q) → OnOk r P → OnOk r Q
ok_more (Ok x) P Q f h = f h
ok_more (Err e) P Q f h = tt

pub err_more : {T E : Type 0} (r : Result T E) (P Q : Type 0) → (P → Q) → OnErr r P → OnErr r Q
err_more (Ok x) P Q f h = tt
err_more (Err e) P Q f h = f h
