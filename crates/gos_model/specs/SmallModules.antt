-- Small modules: their weights, types and links.
--
-- Read first: Weight, Linking.
use Rattle.std.specs.Prelude.{◌≡◌, List, [], ◌∷◌, codes}
use Rattle.gos_types.specs.Types.{Com, Exp, Var, Fun}
use Rattle.gos_model.specs.Terms.{Name, Term, Skip, Lit, Bound, Import, Lam, App, Seq, Par, Assign, Deref, New, While, Not, Bin, Sub, Eq}
use Rattle.gos_model.specs.Typing.{Typed}
use Rattle.gos_model.specs.Weight.{weight}
use Rattle.gos_model.specs.Moves.{Program}
use Rattle.gos_model.specs.Linking.{Bind, substituted, link_weight}
use Rattle.gos_model.specs.SmallPrograms.{c, d, two_commands, loop_once}

-- a loop that runs its second argument as often as its first says
abbrev pub repeat : Term
repeat =
    Lam (Exp 8) (Lam Com (New 8 (Seq (Assign (Bound 0) (Bound 2)) (While (Not (Bin Eq (Deref (Bound 0)) (Lit 0 8)))
    (Seq (Bound 1) (Assign (Bound 0) (Bin Sub (Deref (Bound 0)) (Lit 1 8))))))))

-- the names of two imports
abbrev pub f : Name
f = codes "f"

abbrev pub v : Name
v = codes "v"

-- `f (v := 1) ; f (v := 2)`
abbrev pub user : Program
user =
    record {
      imports = record { name = f; ty = Fun Com Com } ∷ record { name = v; ty = Var 8 } ∷ [];
      body = Seq (App (Import f) (Assign (Import v) (Lit 1 8))) (App (Import f) (Assign (Import v) (Lit 2 8)));
    }

-- `fun a . a ; a`
abbrev pub twice : Program
twice = record { imports = []; body = Lam Com (Seq (Bound 0) (Bound 0)) }

-- the second instance serves the import f of the first
abbrev pub bound : List Bind
bound = record { user = 0; import = f; giver = 1 } ∷ []

-- the weights of worked modules
abbrev pub Weights : Type 0
Weights =
    (weight [] Skip ≡ 5)
    × (weight two_commands (Seq (Import c) (Seq (Import d) (Import c))) ≡ 27)
    × (weight (record { name = c; ty = Com } ∷ []) loop_once.body ≡ 58)
    × (weight [] repeat ≡ 112)
    × (weight user.imports user.body ≡ 63)
    × (weight twice.imports twice.body ≡ 21)

-- types of worked modules
abbrev pub Types : Type 0
Types = Typed [] [] repeat (Fun (Exp 8) (Fun Com Com)) × Typed user.imports [] user.body Com

-- `c || c` has no type: no name may stand in both parts
abbrev pub Shared : Type 0
Shared = Typed two_commands [] (Par (Import c) (Import c)) Com → ⊥

-- a link puts the giver in at each use, and leaves the other import open
abbrev pub Links : Type 0
Links =
    substituted (user ∷ twice ∷ []) bound 0
    ≡ record {
      imports = record { name = v; ty = Var 8 } ∷ [];
      body = Seq (App twice.body (Assign (Import v) (Lit 1 8))) (App twice.body (Assign (Import v) (Lit 2 8)));
    }

-- it weighs what both weigh together; a giver counts once, at however many uses its program is put in
abbrev pub LinkWeighs : Type 0
LinkWeighs = link_weight (user ∷ twice ∷ []) ≡ 84
