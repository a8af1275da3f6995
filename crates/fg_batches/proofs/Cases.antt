-- What holds of an answer, where it is known which one it is.
use Rattle.std.proofs.Common.{◌≡◌, Option, Some, None, IfSome, IfNone, Result, Ok, Err, IfOk, IfErr, OnOk, OnErr, subst}

pub ok_at : {T E : Type 0} (P : T → Type 0) (r : Result T E) (x : T) → r ≡ Ok x → IfOk r P → P x
ok_at {T} {E} P r x is h = subst (λ (q : Result T E). IfOk q P) is h

pub err_at : {T E : Type 0} (P : E → Type 0) (r : Result T E) (e : E) → r ≡ Err e → IfErr r P → P e
err_at {T} {E} P r e is h = subst (λ (q : Result T E). IfErr q P) is h

pub whole_at : {T E : Type 0} (P : Type 0) (r : Result T E) (x : T) → r ≡ Ok x → OnOk r P → P
whole_at {T} {E} P r x is h = subst (λ (q : Result T E). OnOk q P) is h

pub broken_at : {T E : Type 0} (P : Type 0) (r : Result T E) (e : E) → r ≡ Err e → OnErr r P → P
broken_at {T} {E} P r e is h = subst (λ (q : Result T E). OnErr q P) is h

-- What holds of any error holds of the one that there is.
pub any_err : {T E : Type 0} (P : E → Type 0) (r : Result T E) → ((e : E) → P e) → IfErr r P
any_err P (Ok x) f = tt
any_err P (Err e) f = f e

-- What follows there follows wherever there is something, or nothing.
pub some_then : {T : Type 0} (P Q : T → Type 0) (o : Option T) → ((x : T) → P x → Q x) → IfSome o P → IfSome o Q
some_then P Q None f h = tt
some_then P Q (Some x) f h = f x h

pub none_then : {T : Type 0} (P Q : Type 0) (o : Option T) → (P → Q) → IfNone o P → IfNone o Q
none_then P Q None f h = f h
none_then P Q (Some x) f h = tt

-- The same of an answer.
pub ok_then : {T E : Type 0} (P Q : T → Type 0) (r : Result T E) → ((x : T) → P x → Q x) → IfOk r P → IfOk r Q
ok_then P Q (Ok x) f h = f x h
ok_then P Q (Err e) f h = tt

pub fault_then : {T E : Type 0} (P Q : E → Type 0) (r : Result T E) → ((e : E) → P e → Q e) → IfErr r P → IfErr r Q
fault_then P Q (Ok x) f h = tt
fault_then P Q (Err e) f h = f e h

pub err_then : {T E : Type 0} (P Q : Type 0) (r : Result T E) → (P → Q) → OnErr r P → OnErr r Q
err_then P Q (Ok x) f h = tt
err_then P Q (Err e) f h = f h

-- What follows from both answers.
pub either_way : {T E : Type 0} (P : T → Type 0) (Q R : Type 0) (r : Result T E) → ((x : T) → P x → R) → (Q → R) → IfOk r P → OnErr r Q → R
either_way P Q R (Ok x) f g ok err = f x ok
either_way P Q R (Err e) f g ok err = g err

-- What holds of an answer from each of many beginnings on.
pub ok_all : {X Y T E : Type 0} (Q : X → Y → Type 0) (P : X → Y → T → Type 0) (r : Result T E) → ((x : X) (y : Y) → Q x y → IfOk r (P x y)) → IfOk r (λ t. (x : X) (y : Y) → Q x y → P x y t)
ok_all Q P (Ok t) f = f
ok_all Q P (Err e) f = tt

pub err_all : {X Y T E : Type 0} (Q : X → Y → Type 0) (P : X → Y → E → Type 0) (r : Result T E) → ((x : X) (y : Y) → Q x y → IfErr r (P x y)) → IfErr r (λ e. (x : X) (y : Y) → Q x y → P x y e)
err_all Q P (Ok t) f = tt
err_all Q P (Err e) f = f
