-- The table of the names of ports, port by port; and imports whose types are ground.
use Rattle.std.specs.Prelude.{◌≡◌, ℕ, zero, suc, ◌+◌, ◌<◌, Bool, true, false, List, [], ◌∷◌, ◌++◌, drop, length, map, Option, Some, None, slice_get, option_map}
use Rattle.std.proofs.Common.{refl, sym, ◌∙◌, ap, subst, arith, cond, append_assoc}
use Rattle.std.specs.Str.{bytes_eq}
use Rattle.std.proofs.lemmas.List.{length-map}
use Rattle.std.proofs.lemmas.Option.{slice_get-map}
use Rattle.std.proofs.lemmas.Slice.Eq.{bytes_eq-Decides}
use Rattle.gos_types.specs.Types.{IsGround}
use Rattle.gos_plan.specs.Joining.{LeftImport}
use Rattle.gos_lex.specs.Lines.{Word}
use Rattle.gos_link.specs.declared.opens.Open.{Open}
use Rattle.gos_link.specs.declared.build.Instance.{Instance}
use Rattle.gos_lex.specs.declared.table.NameTable.{NameTable}
use Rattle.gos_link.specs.declared.whole.Port as declared_port
use Rattle.gos_link.specs.Linked.{Port, AreDifferent, AreGround, name_of, port_of}
use Rattle.gos_link.specs.inner.Opens.{open_seen}
use Rattle.gos_lex.specs.NameTables.{number_at, added}
use Rattle.gos_model.proofs.NumberLemmas.{number_cases}
use Rattle.gos_link.specs.inner.Ports.{port_seen, AllDiffer, IsTable}

-- the element at a place is one
pub same_at : {X : Type 0} (xs : List X) (i j : ℕ) (x y : X) → i ≡ j → slice_get xs i ≡ Some x → slice_get xs j ≡ Some y → x ≡ y
same_at xs i j x y e f g = let h : Some x ≡ Some y = sym f ∙ (ap (slice_get xs) e ∙ g) in cc h

-- one import more
pub ground_more : (imports : List LeftImport) (n : ℕ) (l : LeftImport) → AreGround n imports → slice_get imports n ≡ Some l → IsGround l.import.ty → AreGround (n + 1) imports
ground_more imports n l before at ground = λ i k low at_i.
    number_cases i n
    (λ e b. subst (λ (x : LeftImport). IsGround x.import.ty) (same_at imports n i l k (sym e) at at_i) ground)
    (λ e b. before i k (omega (arith, low, e)) at_i)

pub seen_at : (opens : List Open) (n : ℕ) (o : Open) → slice_get opens n ≡ Some o → slice_get (map open_seen opens) n ≡ Some (open_seen o)
seen_at opens n o e = slice_get-map open_seen opens n ∙ ap (option_map open_seen) e

pub table_grows : (ports : List Port) (n : ℕ) (q : Port) (old new : NameTable) → IsTable ports n old → slice_get ports n ≡ Some q
    → ((other : Word) → number_at new other ≡ added q.name n (number_at old other) other) → IsTable ports (n + 1) new
table_grows ports n q old new table at adds = record { sound = sound; complete = complete }
  where
    sound_by : (b : Bool) (name : Word) (i : ℕ) → bytes_eq name q.name ≡ b → cond b (Some n) (number_at old name) ≡ Some i
        → (p : Port) × (i < n + 1) × (slice_get ports i ≡ Some p) × (p.name ≡ name)
    sound_by true name i is has =
        let equal : name ≡ q.name = (bytes_eq-Decides name q.name).0 is in
        let here : n ≡ i = cc has in
        (q, omega (arith, here), ap (slice_get ports) (sym here) ∙ at, sym equal)
    sound_by false name i is has = let (p, low, there, named) = table.sound name i has in (p, omega (arith, low), there, named)

    sound : (name : Word) (i : ℕ) → number_at new name ≡ Some i → (p : Port) × (i < n + 1) × (slice_get ports i ≡ Some p) × (p.name ≡ name)
    sound name i has = sound_by (bytes_eq name q.name) name i refl (sym (adds name) ∙ has)

    complete_by : (b : Bool) (i : ℕ) (p : Port) → bytes_eq p.name q.name ≡ b → i < n + 1 → slice_get ports i ≡ Some p → cond b (Some n) (number_at old p.name) ≡ None → ⊥
    complete_by true i p is low there gone = cc gone
    complete_by false i p is low there gone =
        number_cases i n
        (λ e b.
        let same : p ≡ q = same_at ports i n p q e there at in
        let equal : bytes_eq p.name q.name ≡ true = (bytes_eq-Decides p.name q.name).1 (ap (λ (x : Port). x.name) same) in
        let wrong : true ≡ false = sym equal ∙ is in
        absurd (cc wrong))
        (λ e b. table.complete i p (omega (arith, low, e)) there gone)

    complete : (i : ℕ) (p : Port) → i < n + 1 → slice_get ports i ≡ Some p → number_at new p.name ≡ None → ⊥
    complete i p low there gone = complete_by (bytes_eq p.name q.name) i p refl low there (sym (adds p.name) ∙ gone)

-- a port whose name the table hasn't is another
pub different_more : (ports : List Port) (n : ℕ) (q : Port) (numbers : NameTable) → AreDifferent n ports → IsTable ports n numbers → slice_get ports n ≡ Some q
    → number_at numbers q.name ≡ None → AreDifferent (n + 1) ports
different_more ports n q numbers before table at gone = λ i j p r less low at_i at_j.
    number_cases j n
    (λ e b same.
    let is : q ≡ r = same_at ports n j q r (sym e) at at_j in
    let named : q.name ≡ p.name = ap (λ (x : Port). x.name) is ∙ sym same in
    table.complete i p (omega (arith, less, e)) at_i (ap (number_at numbers) (sym named) ∙ gone))
    (λ e b. before i j p r less (omega (arith, low, e)) at_i at_j)

-- ports by another name for their list
pub all_differ : (ports : List declared_port.Port) (all : List Port) → map port_seen ports ≡ all → AreDifferent (length ports) (map port_seen ports) → AllDiffer all
all_differ ports all is different =
    subst (λ (ps : List Port). AllDiffer ps) is (subst (λ (n : ℕ). AreDifferent n (map port_seen ports)) (sym (length-map ports port_seen)) different)

-- a port as the program holds it, at a place of the list
pub port_at : (ports : List declared_port.Port) (n : ℕ) (p : declared_port.Port) → slice_get ports n ≡ Some p → slice_get (map port_seen ports) n ≡ Some (port_seen p)
port_at ports n p e = slice_get-map port_seen ports n ∙ ap (option_map port_seen) e

drop_at : (xs : List Open) (k : ℕ) (x : Open) → slice_get xs k ≡ Some x → drop k xs ≡ x ∷ drop (suc k) xs
drop_at [] k x e = absurd (cc e)
drop_at (y ∷ xs) zero x e = let same : y ≡ x = cc e in ap (λ (z : Open). z ∷ xs) same
drop_at (y ∷ xs) (suc k) x e = drop_at xs k x e

-- the ports so far and those of the imports that are left, one import further
pub ports_more : (is : List Instance) (opens : List Open) (n : ℕ) (o : Open) (i : Instance) (p : Port) (old new all : List Port) → slice_get opens n ≡ Some o
    → slice_get is o.plan ≡ Some i → p ≡ (record { name = o.import.now.name; instance = i.name }) → new ≡ old ++ p ∷ []
    → old ++ map (port_of is) (map open_seen (drop n opens)) ≡ all → new ++ map (port_of is) (map open_seen (drop (n + 1) opens)) ≡ all
ports_more is opens n o i p old new all at there is_p pushed before =
    let next : suc n ≡ n + 1 = omega arith in
    let rest : drop n opens ≡ o ∷ drop (n + 1) opens = drop_at opens n o at ∙ ap (λ (k : ℕ). o ∷ drop k opens) next in
    let same : p ≡ port_of is (open_seen o) = is_p ∙ ap (λ (x : Option Instance). record { name = o.import.now.name; instance = name_of x }) (sym there) in
    let tail : List Port = map (port_of is) (map open_seen (drop (n + 1) opens)) in
    ap (λ (ps : List Port). ps ++ tail) pushed
    ∙ (append_assoc old (p ∷ []) tail
    ∙ (ap (λ (x : Port). old ++ x ∷ tail) same
    ∙ (ap (λ (os : List Open). old ++ map (port_of is) (map open_seen os)) (sym rest) ∙ before)))

seen_more : (xs : List declared_port.Port) (p : declared_port.Port) → map port_seen (xs ++ p ∷ []) ≡ map port_seen xs ++ port_seen p ∷ []
seen_more [] p = refl
seen_more (x ∷ xs) p = ap (λ (ps : List Port). port_seen x ∷ ps) (seen_more xs p)

pub seen_pushed : (old new : List declared_port.Port) (p : declared_port.Port) → new ≡ old ++ p ∷ [] → map port_seen new ≡ map port_seen old ++ port_seen p ∷ []
seen_pushed old new p is = ap (map port_seen) is ∙ seen_more old p
