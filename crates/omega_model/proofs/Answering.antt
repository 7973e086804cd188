-- What holds of what a call answers, if it isn't refused.
use Rattle.std.specs.Prelude.{IfOk, Result, Ok, Err}

-- what follows from what holds of a value holds of it too
pub if_ok_weaker : {T E : Type 0} (P Q : T → Type 0) (result : Result T E) → ((value : T) → P value → Q value) → IfOk result P → IfOk result Q
if_ok_weaker P Q (Ok value) follows holds = follows value holds
if_ok_weaker P Q (Err error) follows holds = tt
