-- What an option holds.
use Rattle.std.specs.Prelude.{◌≡◌, Option, Some, None, IsSome, refl}

pub some_there : {X : Type 0} (o : Option X) (x : X) → o ≡ Some x → IsSome o
some_there None x e = absurd cc
some_there (Some y) x e = refl

pub same_there : {X : Type 0} (o : Option X) (x y : X) → o ≡ Some x → o ≡ Some y → x ≡ y
same_there o x y e f = cc
