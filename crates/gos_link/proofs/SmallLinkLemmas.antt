-- The small builds, computed.
use Rattle.std.specs.Prelude.{◌≡◌, ◌≢◌, ◌<◌, ℕ, List, [], ◌∷◌, Option, Some, None, codes, map, slice_get}
use Rattle.std.specs.Str.{bytes_eq}
use Rattle.std.proofs.Common.{true≢false, refl, sym, ◌∙◌, ap, subst, arith, inl, inr}
use Rattle.gos_types.specs.declared.types.Ty.{Ty}
use Rattle.gos_types.specs.declared.types.Ty.TheVariants.{Com as AtCom, Exp as AtExp, Var as AtVar}
use Rattle.gos_types.specs.Types.{Type', type_of, IsGround}
use Rattle.gos_lex.specs.Lines.{Word}
use Rattle.gos_plan.specs.declared.plan.PlanImport.{PlanImport}
use Rattle.gos_plan.specs.Seen.{SeenPlan}
use Rattle.gos_link.specs.declared.build.Instance.{Instance}
use Rattle.gos_link.specs.declared.build.Bind.{Bind}
use Rattle.gos_link.specs.declared.build.Build.{Build}
use Rattle.gos_link.specs.declared.services.Service.{Service}
use Rattle.gos_link.specs.declared.fault.LinkFault.{LinkFault}
use Rattle.gos_link.specs.declared.fault.LinkFault.TheVariants as faults
use Rattle.gos_link.specs.Services.{HasRing, IsRightBind, BindsOn, instance_named, import_named, once}
use Rattle.gos_link.specs.Linked.{Port, AreDifferent, IsPlaced, IsWrongWhole, IsNamed, name_of, first_unplaced, ports_of, whole_of}
use Rattle.gos_link.specs.SmallLinks.{instance, bind, shell, command, two, three, Says, Refused, OneIsServed, NoUser, NoGiver, NoSuchImport, TypesDiffer, IsBoundTwice, IsUsedTwice, IsLoop, NoRoot, IsUnplaced, IsOpenTwice, ResultIsNotGround, ImportIsNotGround}
use Rattle.gos_link.proofs.AboveLemmas.{above_none}
use Rattle.gos_link.proofs.TopLemmas.{none_closed}

-- the build's lines mean what these lines mean
lines_too : (is : List Instance) (bs : List Bind) (ps : List SeenPlan) (ss : List Service) (ending : Option LinkFault) (b : Build) → Says b is bs
    → BindsOn is ps [] bs ss ending → BindsOn b.instances.items ps [] b.binds.items ss ending
lines_too is bs ps ss ending b says binds =
    subst (λ (js : List Instance). BindsOn js ps [] b.binds.items ss ending) (sym says.instances)
    (subst (λ (cs : List Bind). BindsOn is ps [] cs ss ending) (sym says.binds) binds)

line_wrong : (is : List Instance) (bs : List Bind) (ps : List SeenPlan) (ss : List Service) (fault : LinkFault) → BindsOn is ps [] bs ss (Some fault)
    → Refused is bs ps fault
line_wrong is bs ps ss fault binds b says = inl (ss, lines_too is bs ps ss (Some fault) b says binds)

-- without lines
whole_wrong : (is : List Instance) (ps : List SeenPlan) (fault : LinkFault) → ((b : Build) → Says b is [] → IsWrongWhole b ps [] fault) → Refused is [] ps fault
whole_wrong is ps fault wrong b says = inr ([], lines_too is [] ps [] None b says refl, wrong b says)

-- one service closes no ring, where its user isn't its giver
no_ring : (s : Service) → s.user ≢ s.giver → HasRing (s ∷ []) → ⊥
no_ring s apart =
    let none = above_none 0 in none_closed 0 [] none.0 none.1 s refl (λ e. apart (sym (none.1.own s.user refl) ∙ e))

-- the plan of a, with an import c, and one with no import
abbrev with_c : SeenPlan
with_c = shell (command (codes "c") ∷ []) AtCom

abbrev bare : SeenPlan
bare = shell [] AtCom

-- the service of import c of a by b, by line 5
abbrev by_b : Service
by_b = record { line = 5; user = 0; import = 0; giver = 1 }

apart : by_b.user ≢ by_b.giver
apart e = absurd (cc e)

-- it is right as the first, of two instances or three
right_of_two : (more : List PlanImport) → import_named (command (codes "c") ∷ more) (codes "c") ≡ Some 0
    → IsRightBind two (shell (command (codes "c") ∷ more) AtCom ∷ bare ∷ []) [] (bind 5 (codes "a") (codes "c") (codes "b")) by_b
right_of_two more named =
    record {
      means = (
        shell (command (codes "c") ∷ more) AtCom,
        bare,
        command (codes "c"),
        refl,
        record { both = record { finds_user = refl; finds_giver = refl; of_user = refl; of_giver = refl }; named = named; import = refl },
        refl,
      );
      unbound = refl;
      unused = refl;
      ringless = no_ring by_b apart;
    }

right_of_three : IsRightBind three (with_c ∷ bare ∷ bare ∷ []) [] (bind 5 (codes "a") (codes "c") (codes "b")) by_b
right_of_three =
    record {
      means = (
        with_c,
        bare,
        command (codes "c"),
        refl,
        record { both = record { finds_user = refl; finds_giver = refl; of_user = refl; of_giver = refl }; named = refl; import = refl },
        refl,
      );
      unbound = refl;
      unused = refl;
      ringless = no_ring by_b apart;
    }

-- the root is a, which is the first instance
finds_a : (is : List Instance) (bs : List Bind) (b : Build) → Says b is bs → instance_named is (codes "a") ≡ Some 0 → instance_named b.instances.items b.root ≡ Some 0
finds_a is bs b says finds = (λ i. instance_named (says.instances i) (says.root i)) ∙ finds

placed : (is : List Instance) (bs : List Bind) (ss : List Service) (b : Build) → Says b is bs → instance_named is (codes "a") ≡ Some 0
    → first_unplaced 0 ss 0 is ≡ None → IsPlaced b ss 0
placed is bs ss b says finds each =
    record { finds_root = finds_a is bs b says finds; placed = ap (λ (js : List Instance). first_unplaced 0 ss 0 js) says.instances ∙ each }

-- one port has one name
one_port : (ports : List Port) → AreDifferent 1 ports
one_port ports i j p q low high at and = absurd (omega (arith, low, high))

pub one_is_served : OneIsServed
one_is_served b says =
    record {
      binds = lines_too two (bind 5 (codes "a") (codes "c") (codes "b") ∷ []) (with_c ∷ bare ∷ []) (by_b ∷ []) None b says (right_of_two [] refl, refl);
      grounded =
          record {
            named =
                record {
                  placed = placed two (bind 5 (codes "a") (codes "c") (codes "b") ∷ []) (by_b ∷ []) b says refl refl;
                  names = one_port (ports_of b (whole_of (with_c ∷ bare ∷ []) (by_b ∷ []) 0));
                };
            result = tt;
            imports = λ i l low at. absurd (omega (arith, low));
          };
    }

pub no_user : NoUser
no_user = line_wrong two (bind 5 (codes "z") (codes "c") (codes "b") ∷ []) (with_c ∷ bare ∷ []) [] _ (refl, inl (refl, refl))

pub no_giver : NoGiver
no_giver = line_wrong two (bind 5 (codes "a") (codes "c") (codes "z") ∷ []) (with_c ∷ bare ∷ []) [] _ (refl, inr (0, refl, refl, refl))

pub no_such_import : NoSuchImport
no_such_import =
    line_wrong two (bind 5 (codes "a") (codes "d") (codes "b") ∷ []) (with_c ∷ bare ∷ []) [] (faults.NoImport 5 (codes "d")) (
      refl,
      refl,
      (0, 1, with_c, bare, record { finds_user = refl; finds_giver = refl; of_user = refl; of_giver = refl }, refl),
    )

pub types_differ : TypesDiffer
types_differ =
    line_wrong two (bind 5 (codes "a") (codes "c") (codes "b") ∷ []) (with_c ∷ shell [] (AtExp 8) ∷ []) [] (faults.TypeDiffers 5 AtCom (AtExp 8)) (
      by_b,
      with_c,
      shell [] (AtExp 8),
      command (codes "c"),
      refl,
      record { both = record { finds_user = refl; finds_giver = refl; of_user = refl; of_giver = refl }; named = refl; import = refl },
      refl,
      refl,
      λ e. absurd (cc e),
    )

pub is_bound_twice : IsBoundTwice
is_bound_twice =
    line_wrong three (bind 5 (codes "a") (codes "c") (codes "b") ∷ bind 6 (codes "a") (codes "c") (codes "c") ∷ []) (with_c ∷ bare ∷ bare ∷ []) (by_b ∷ [])
    (faults.BoundTwice 5 6) (
      right_of_three,
      (
        record { line = 6; user = 0; import = 0; giver = 2 },
        refl,
        (
          with_c,
          bare,
          command (codes "c"),
          refl,
          record { both = record { finds_user = refl; finds_giver = refl; of_user = refl; of_giver = refl }; named = refl; import = refl },
          refl,
        ),
        refl,
      ),
    )

pub is_used_twice : IsUsedTwice
is_used_twice =
    let both : SeenPlan = shell (command (codes "c") ∷ command (codes "d") ∷ []) AtCom in
    line_wrong two (bind 5 (codes "a") (codes "c") (codes "b") ∷ bind 6 (codes "a") (codes "d") (codes "b") ∷ []) (both ∷ bare ∷ []) (by_b ∷ [])
    (faults.UsedTwice 5 6) (
      right_of_two (command (codes "d") ∷ []) refl,
      (
        record { line = 6; user = 0; import = 1; giver = 1 },
        refl,
        (
          both,
          bare,
          command (codes "d"),
          refl,
          record { both = record { finds_user = refl; finds_giver = refl; of_user = refl; of_giver = refl }; named = refl; import = refl },
          refl,
        ),
        refl,
        refl,
      ),
    )

pub is_loop : IsLoop
is_loop =
    let s : Service = record { line = 5; user = 1; import = 0; giver = 1 } in
    line_wrong two (bind 5 (codes "b") (codes "c") (codes "b") ∷ []) (bare ∷ with_c ∷ []) [] (faults.Loop 5) (
      s,
      refl,
      (
        with_c,
        with_c,
        command (codes "c"),
        refl,
        record { both = record { finds_user = refl; finds_giver = refl; of_user = refl; of_giver = refl }; named = refl; import = refl },
        refl,
      ),
      refl,
      refl,
      (1, once s (inl refl)),
    )

pub no_root : NoRoot
no_root =
    whole_wrong (instance 2 (codes "b") ∷ []) (bare ∷ []) (faults.NoInstance 9 (codes "a"))
    (λ b says. (sym says.line, sym says.root, (λ i. instance_named (says.instances i) (says.root i)) ∙ refl))

pub is_unplaced : IsUnplaced
is_unplaced =
    whole_wrong two (bare ∷ bare ∷ []) (faults.Unplaced (codes "b"))
    (λ b says. (0, finds_a two [] b says refl, ap (λ (js : List Instance). first_unplaced 0 [] 0 js) says.instances ∙ refl))

pub is_open_twice : IsOpenTwice
is_open_twice =
    let port : Port = record { name = codes "a"; instance = codes "a" } in
    whole_wrong (instance 2 (codes "a") ∷ []) (shell (command (codes "a") ∷ []) AtCom ∷ []) (faults.OpenTwice (codes "a") (codes "a") (codes "a"))
    (λ b says. (
      0,
      port,
      port,
      placed (instance 2 (codes "a") ∷ []) [] [] b says refl refl,
      record {
        first = 0;
        second = 1;
        before = omega arith;
        at_first = λ i. Some (record { name = says.root i; instance = says.root i });
        at_second = λ i. Some (record { name = codes "a"; instance = name_of (slice_get (says.instances i) 0) });
        same = refl;
        different = one_port (ports_of b (whole_of (shell (command (codes "a") ∷ []) AtCom ∷ []) [] 0));
      },
      refl,
      refl,
      refl,
    ))

pub result_is_not_ground : ResultIsNotGround
result_is_not_ground =
    whole_wrong (instance 2 (codes "a") ∷ []) (shell [] (AtVar 8) ∷ []) (faults.NotGround (codes "a"))
    (λ b says. (
      0,
      record {
        placed = placed (instance 2 (codes "a") ∷ []) [] [] b says refl refl;
        names = one_port (ports_of b (whole_of (shell [] (AtVar 8) ∷ []) [] 0));
      },
      inl ((λ never. never), sym says.root),
    ))

other_name : codes "a" ≡ codes "d" → ⊥
other_name e = true≢false (ap (λ (w : Word). bytes_eq (codes "a") w) e)

pub import_is_not_ground : ImportIsNotGround
import_is_not_ground ty is = whole_wrong only (plan ∷ []) (faults.NotGround (codes "d")) wrong
  where
    only : List Instance
    only = instance 2 (codes "a") ∷ []

    plan : SeenPlan
    plan = shell (record { name = codes "d"; ty = ty } ∷ []) AtCom

    -- the ports are a and d
    differ : (b : Build) → Says b only [] → AreDifferent 2 (ports_of b (whole_of (plan ∷ []) [] 0))
    differ b says i j p q low high at and same =
        let one : 0 ≡ i = omega (arith, low, high) in
        let other : 1 ≡ j = omega (arith, low, high) in
        let first : Some (record { name = b.root; instance = b.root }) ≡ Some p =
        ap (λ (k : ℕ). slice_get (ports_of b (whole_of (plan ∷ []) [] 0)) k) one ∙ at in
        let second : Some (record { name = codes "d"; instance = name_of (slice_get b.instances.items 0) }) ≡ Some q =
        ap (λ (k : ℕ). slice_get (ports_of b (whole_of (plan ∷ []) [] 0)) k) other ∙ and in
        let root : record { name = b.root; instance = b.root } ≡ p = cc first in
        let import : record { name = codes "d"; instance = name_of (slice_get b.instances.items 0) } ≡ q = cc second in
        let names : codes "a" ≡ codes "d" =
        sym says.root ∙ (ap (λ (x : Port). x.name) root ∙ (same ∙ ap (λ (x : Port). x.name) (sym import))) in absurd (other_name names)

    wrong : (b : Build) → Says b only [] → IsWrongWhole b (plan ∷ []) [] (faults.NotGround (codes "d"))
    wrong b says = (
      0,
      record { placed = placed only [] [] b says refl refl; names = differ b says },
      inr (
        tt,
        record { plan = 0; number = 0; import = record { name = codes "d"; ty = type_of ty } },
        record {
          number = 0;
          at = refl;
          ground = λ i l low at. absurd (omega (arith, low));
          higher = λ ground. absurd (subst IsGround is ground);
        },
        refl,
      ),
    )
