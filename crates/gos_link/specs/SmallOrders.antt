-- The order of the joints of two plans that are joined.
--
-- Read first: Order.
use Rattle.std.specs.Prelude.{List, [], ◌∷◌, ◌++◌, codes}
use Rattle.gos_types.specs.Types.{Com}
use Rattle.gos_plan.specs.Kinds.{Seq}
use Rattle.gos_plan.specs.Plans.{PartEnd, ImportEnd, ResultEnd, Joint, Plan}
use Rattle.gos_plan.specs.Joining.{place, Wiring}
use Rattle.gos_ties.specs.Ties.{joint}
use Rattle.gos_link.specs.Order.{AreInOrder}

-- the plan of `c ; d`, of two imports
abbrev pub both_plan : Plan
both_plan =
    record {
      weight = 17;
      imports = record { name = codes "c"; ty = Com } ∷ record { name = codes "d"; ty = Com } ∷ [];
      outcome = Com;
      parts = Seq 0 ∷ [];
      joints = joint (ResultEnd 0) (PartEnd 0 2) ∷ joint (PartEnd 0 0) (ImportEnd 0 0) ∷ joint (PartEnd 0 1) (ImportEnd 1 0) ∷ [];
    }

-- twice this plan: the second one serves the import d of the first
abbrev pub twice_both : Wiring
twice_both =
    record {
      plans = both_plan ∷ both_plan ∷ [];
      links = record { one = place 0 (ImportEnd 1 0); other = place 1 (ResultEnd 0) } ∷ [];
      giver = 0;
      skipped = 0;
      outcome = Com;
    }

-- the joints of the whole whose asking ends are those of the first plan, and those of the second
abbrev pub first_joints : List Joint
first_joints =
    joint (ResultEnd 0) (PartEnd 0 2) ∷ joint (PartEnd 0 0) (ImportEnd 0 0) ∷ joint (PartEnd 0 1) (PartEnd 1 2) ∷ []

abbrev pub second_joints : List Joint
second_joints = joint (PartEnd 1 0) (ImportEnd 1 0) ∷ joint (PartEnd 1 1) (ImportEnd 2 0) ∷ []

-- the first plan's come first
abbrev pub FirstComesFirst : Type 0
FirstComesFirst = AreInOrder twice_both (first_joints ++ second_joints)

abbrev pub SecondIsNotFirst : Type 0
SecondIsNotFirst = AreInOrder twice_both (second_joints ++ first_joints) → ⊥
