-- Several writes: what each leaves as it was, all of them leave.
--
-- `none_yet` begins, `one_more` adds a write of a file that the list of names has, `then_later` joins two runs of
-- writes, and `more_names` lets the list grow.
use Rattle.std.proofs.Common.{◌≢◌, List, [], ◌∷◌, ◌++◌, ℕ, Option, None, Some, refl, ◌∙◌}
use Rattle.gos_outside.specs.Files.{Files, SameBut}
use Rattle.gos_outside.specs.OtherFiles.{IsApart, OthersSame}

-- before any write
pub none_yet : (names : List (List ℕ)) (s : Option Files) → OthersSame names s s
none_yet names None = tt
none_yet names (Some s) = λ other apart. refl

-- after a write of `name`
pub one_more : (name : List ℕ) (names : List (List ℕ)) (s t u : Option Files) → ((other : List ℕ) → IsApart other names → other ≢ name) → OthersSame names s t → SameBut name t u → OthersSame names s u
one_more name names None None None listed before write = tt
one_more name names None None (Some u) listed before write = absurd write
one_more name names None (Some t) u listed before write = absurd before
one_more name names (Some s) None u listed before write = absurd before
one_more name names (Some s) (Some t) None listed before write = absurd write
one_more name names (Some s) (Some t) (Some u) listed before write = λ other apart. write other (listed other apart) ∙ before other apart

-- after more writes of the same files
pub then_later : (names : List (List ℕ)) (s t u : Option Files) → OthersSame names s t → OthersSame names t u → OthersSame names s u
then_later names None None None first second = tt
then_later names None None (Some u) first second = absurd second
then_later names None (Some t) u first second = absurd first
then_later names (Some s) None u first second = absurd first
then_later names (Some s) (Some t) None first second = absurd second
then_later names (Some s) (Some t) (Some u) first second = λ other apart. second other apart ∙ first other apart

-- of a longer list of names
pub more_names : (names more : List (List ℕ)) (s t : Option Files) → ((other : List ℕ) → IsApart other more → IsApart other names) → OthersSame names s t → OthersSame more s t
more_names names more None None among same = tt
more_names names more None (Some t) among same = absurd same
more_names names more (Some s) None among same = absurd same
more_names names more (Some s) (Some t) among same = λ other apart. same other (among other apart)

-- a name that is apart from two lists is apart from each
pub apart_front : (other : List ℕ) (names more : List (List ℕ)) → IsApart other (names ++ more) → IsApart other names
apart_front other [] more apart = tt
apart_front other (name ∷ names) more apart = (apart.0, apart_front other names more apart.1)

pub apart_back : (other : List ℕ) (names more : List (List ℕ)) → IsApart other (names ++ more) → IsApart other more
apart_back other [] more apart = apart
apart_back other (name ∷ names) more apart = apart_back other names more apart.1
