-- Answers that are a value or a fault, one after another. It assumes nothing.
use Rattle.std.specs.Prelude.{Ok, Err, Result}

-- the answer with what it holds seen another way
abbrev pub map_ok : {X Y E : Type 0} → (X → Y) → Result X E → Result Y E
map_ok f (Ok x) = Ok (f x)
map_ok f (Err e) = Err e

-- first the one, then the other
abbrev pub and_then : {X Y E : Type 0} → Result X E → (X → Result Y E) → Result Y E
and_then (Ok x) k = k x
and_then (Err e) k = Err e

-- the fault as it stands in a larger one
abbrev pub map_err : {X E F : Type 0} → (E → F) → Result X E → Result X F
map_err f (Ok x) = Ok x
map_err f (Err e) = Err (f e)
