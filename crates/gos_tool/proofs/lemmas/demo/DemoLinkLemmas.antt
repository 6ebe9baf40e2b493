-- The demo's build: its instances have the demo's sources, and its lines pass the test of linking, for each number of levels.
use Rattle.std.proofs.Common.{◌≡◌, ◌≤◌, ◌+◌, ◌*◌, ◌%◌, ◌==◌, ℕ, zero, suc, true, false, nat_lt, List, [], ◌∷◌, ◌++◌, map, Some, None, slice_get, if◌then◌else◌, refl, sym, ◌∙◌, ap, subst, arith}
use Rattle.std.specs.Prelude.{codes}
use Rattle.std.specs.Str.{bytes_eq}
use Rattle.gos_types.specs.Types.{Com}
use Rattle.gos_lex.specs.Lines.{Word}
use Rattle.gos_plan.specs.Joining.{left_among, all_weight}
use Rattle.gos_link.specs.declared.build.Instance.{Instance}
use Rattle.gos_link.specs.declared.build.Bind.{Bind}
use Rattle.gos_link.specs.declared.build.Build.{Build}
use Rattle.gos_link.specs.declared.services.Service.{Service}
use Rattle.gos_link.specs.BuildFile.{Sum, RootLine, nothing, sum_of, whole}
use Rattle.gos_link.specs.Services.{instance_named}
use Rattle.gos_link.specs.Linked.{links_of, outcome_of, first_unplaced}
use Rattle.gos_tool.proofs.lemmas.demo.FormLemmas.{demo_items}
use Rattle.gos_tool.proofs.lemmas.demo.SortLemmas.{Sort, bare_plans}
use Rattle.gos_tool.proofs.lemmas.demo.LinkLemmas.{IsLinkable, left_c}
use Rattle.gos_tool.proofs.lemmas.demo.BindLemmas.{binds}
use Rattle.gos_tool.proofs.lemmas.demo.KindLemmas.{Kind, AMain, ATwice, APass, APair, AnId, sort_of, sources_of, names_of_kinds}

-- the sources of k + 1 levels
abbrev level_kind : ℕ → Kind
level_kind n = if n == 1 then ATwice else (if n % 2 == 0 then APair else APass)

abbrev level_kinds : ℕ → List Kind
level_kinds zero = []
level_kinds (suc n) = level_kinds n ++ (level_kind (suc n) ∷ [])

abbrev pub kinds : ℕ → List Kind
kinds k = AMain ∷ level_kinds (suc k) ++ (AnId ∷ [])

abbrev pub sorts : ℕ → List Sort
sorts k = map sort_of (kinds k)

-- each instance is served by the next one
abbrev services_from : ℕ → ℕ → ℕ → List Service
services_from line user zero = []
services_from line user (suc n) =
    record { line = line; user = user; import = 0; giver = user + 1 } ∷ services_from (line + 1) (user + 1) n

abbrev pub services : ℕ → List Service
services k = services_from (k + 5) 0 (k + 2)

-- what its lines say together
abbrev demo_sum : ℕ → Sum
demo_sum k = sum_of nothing (demo_items k)

record Tested (k : ℕ) : Type 0 where
  sources : sources_of (demo_sum k).instances ≡ names_of_kinds (kinds k)
  links : IsLinkable (demo_sum k).instances (demo_sum k).binds (codes "main") (sorts k) (services k)
  root : (demo_sum k).root ≡ Some (record { line = 2 * k + 7; name = codes "main" })
  pulses : (demo_sum k).pulses ≡ Some (codes "demo.pls")

all : {k : ℕ} → sources_of (demo_sum k).instances ≡ names_of_kinds (kinds k) → binds (demo_sum k).instances (sorts k) [] (demo_sum k).binds (services k) ≡ true
    → instance_named (demo_sum k).instances (codes "main") ≡ Some 0 → bytes_eq (codes "main") (codes "c") ≡ false → first_unplaced 0 (services k) 0 (demo_sum k).instances ≡ None
    → left_among (links_of (bare_plans (sorts k)) (services k)) 0 (bare_plans (sorts k)) ≡ left_c ∷ [] → outcome_of (slice_get (bare_plans (sorts k)) 0) ≡ Com
    → nat_lt (all_weight (bare_plans (sorts k))) 32769 ≡ true → (demo_sum k).root ≡ Some (record { line = 2 * k + 7; name = codes "main" })
    → (demo_sum k).pulses ≡ Some (codes "demo.pls") → Tested k
all sources lines finds other placed left done light root pulses =
    record {
      sources = sources;
      links = record { lines = lines; finds_root = finds; other_name = other; placed = placed; left = left; done = done; light = light };
      root = root;
      pulses = pulses;
    }

tested : (k : ℕ) → k ≤ 11 → Tested k
tested zero few = all refl refl refl refl refl refl refl refl refl refl
tested (suc zero) few = all refl refl refl refl refl refl refl refl refl refl
tested (suc (suc zero)) few = all refl refl refl refl refl refl refl refl refl refl
tested (suc (suc (suc zero))) few = all refl refl refl refl refl refl refl refl refl refl
tested (suc (suc (suc (suc zero)))) few = all refl refl refl refl refl refl refl refl refl refl
tested (suc (suc (suc (suc (suc zero))))) few = all refl refl refl refl refl refl refl refl refl refl
tested (suc (suc (suc (suc (suc (suc zero)))))) few = all refl refl refl refl refl refl refl refl refl refl
tested (suc (suc (suc (suc (suc (suc (suc zero))))))) few = all refl refl refl refl refl refl refl refl refl refl
tested (suc (suc (suc (suc (suc (suc (suc (suc zero)))))))) few = all refl refl refl refl refl refl refl refl refl refl
tested (suc (suc (suc (suc (suc (suc (suc (suc (suc zero))))))))) few = all refl refl refl refl refl refl refl refl refl refl
tested (suc (suc (suc (suc (suc (suc (suc (suc (suc (suc zero)))))))))) few = all refl refl refl refl refl refl refl refl refl refl
tested (suc (suc (suc (suc (suc (suc (suc (suc (suc (suc (suc zero))))))))))) few = all refl refl refl refl refl refl refl refl refl refl
tested (suc (suc (suc (suc (suc (suc (suc (suc (suc (suc (suc (suc k)))))))))))) few = absurd (omega (arith, few))

-- what is known of a build that they say
pub record IsDemoBuild (k : ℕ) (b : Build) : Type 0 where
  pub sources : sources_of b.instances.items ≡ names_of_kinds (kinds k)
  pub links : IsLinkable b.instances.items b.binds.items b.root (sorts k) (services k)
  pub root : b.root ≡ codes "main"
  pub pulses : b.pulses ≡ codes "demo.pls"

same_inside : {X : Type 0} (x y : X) → Some x ≡ Some y → x ≡ y
same_inside x y e = cc e

pub is_demo_build : (k : ℕ) (b : Build) → k ≤ 11 → sum_of nothing (demo_items k) ≡ whole b → IsDemoBuild k b
is_demo_build k b few same =
    let t = tested k few in
    let instances : (demo_sum k).instances ≡ b.instances.items = ap (λ (s : Sum). s.instances) same in
    let binds : (demo_sum k).binds ≡ b.binds.items = ap (λ (s : Sum). s.binds) same in
    let of_root : Some (record { line = 2 * k + 7; name = codes "main" }) ≡ Some (record { line = b.root_line; name = b.root }) = sym t.root ∙ ap (λ (s : Sum). s.root) same in
    let of_pulses : Some (codes "demo.pls") ≡ Some b.pulses = sym t.pulses ∙ ap (λ (s : Sum). s.pulses) same in
    let main : RootLine = record { line = 2 * k + 7; name = codes "main" } in
    let root_of : RootLine = record { line = b.root_line; name = b.root } in
    let root : codes "main" ≡ b.root = ap (λ (r : RootLine). r.name) (same_inside main root_of of_root) in
    let pulses : codes "demo.pls" ≡ b.pulses = same_inside (codes "demo.pls") b.pulses of_pulses in
    record {
      sources = ap sources_of (sym instances) ∙ t.sources;
      links =
          subst (λ (is : List Instance). IsLinkable is b.binds.items b.root (sorts k) (services k)) instances
          (subst (λ (bs : List Bind). IsLinkable (demo_sum k).instances bs b.root (sorts k) (services k)) binds
          (subst (λ (name : Word). IsLinkable (demo_sum k).instances (demo_sum k).binds name (sorts k) (services k)) root t.links));
      root = sym root;
      pulses = sym pulses;
    }
