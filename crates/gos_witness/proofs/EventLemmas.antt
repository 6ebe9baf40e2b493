-- The labels of ports: a port's name, an event's name, and its value; none of their texts begins another one.
use Rattle.std.proofs.Common.{◌≡◌, ℕ, zero, suc, ◌-◌, ◌^◌, ◌<◌, ◌≤◌, List, [], ◌∷◌, ◌++◌, length, get_or, slice_get, Option, Some, None, nat_eq, refl, sym, ◌∙◌, ap, subst, arith, append_assoc, append-nil}
use Rattle.std.specs.Prelude.{if◌then◌else◌}
use Rattle.std.specs.List.{AllByRecursion}
use Rattle.std.proofs.Math.Pow.{pow_mono}
use Rattle.std.proofs.lemmas.Nat.{pow_pos}
use Rattle.std.proofs.lemmas.List.{append_cancel_left, length-map}
use Rattle.gos_types.specs.Types.{Type', Com, Exp, Var, Pair, Fun}
use Rattle.gos_netlist.specs.NetText.{line}
use Rattle.gos_netlist.specs.Seen.{ground_type}
use Rattle.gos_netlist.specs.Writable.{IsPortType}
use Rattle.gos_lex.specs.Items.{TextAt, Misses}
use Rattle.gos_lex.specs.ItemTexts.{IsTextOf, IsAmong, IsNumberText, Passed, ended}
use Rattle.gos_lex.proofs.SequenceLemmas.{IsCode, misses_as}
use Rattle.gos_lex.proofs.NameTextLemmas.{name_code}
use Rattle.gos_lex.proofs.NumberTextLemmas.{number_code}
use Rattle.gos_witness.specs.declared.labels.Label.{Label}
use Rattle.gos_witness.specs.declared.program.ProgramPort.{ProgramPort}
use Rattle.gos_witness.specs.TraceText.{HasEvent, event_text, port_label, label_text, IsLabel}
use Rattle.gos_witness.specs.Ports.{ArePorts, AreApart}
use Rattle.gos_witness.specs.inner.Left.{HasLeft, Behind, End, Leads, Breaks}
use Rattle.gos_witness.specs.inner.TraceParts.{dotted_name, names_of, IsNamed, port_type, type_at, event_heads, head_at, value_width, IsValue, value_text, IsValueText, LabelLeft, EventLeft, ValueLeft}
use Rattle.gos_witness.proofs.LeftLemmas.{Stage, IsOne, one_end, stage_one, item_passed, item_missed, leads_on, breaks_on}

-- Ports by their names.

-- a port that there is
pub port_there : (ports : List ProgramPort) (k : ℕ) → k < length ports → (p : ProgramPort) × (slice_get ports k ≡ Some p) × (get_or (names_of ports) k [] ≡ dotted_name p)
port_there [] k inside = absurd (omega (arith, inside))
port_there (p ∷ ports) zero inside = (p, refl, refl)
port_there (p ∷ ports) (suc k) inside = port_there ports k (omega (arith, inside))

within : (ports : List ProgramPort) (k : ℕ) (p : ProgramPort) → slice_get ports k ≡ Some p → k < length ports
within [] k p there = absurd (cc)
within (q ∷ ports) zero p there = omega arith
within (q ∷ ports) (suc k) p there = omega (arith, within ports k p there)

name_there : (ports : List ProgramPort) (k : ℕ) (p : ProgramPort) → slice_get ports k ≡ Some p → get_or (names_of ports) k [] ≡ dotted_name p
name_there [] k p there = absurd (cc)
name_there (q ∷ ports) zero p there = let same : q ≡ p = cc there in ap dotted_name same
name_there (q ∷ ports) (suc k) p there = name_there ports k p there

named_there : (ports : List ProgramPort) (k : ℕ) (p : ProgramPort) → AllByRecursion IsNamed ports → slice_get ports k ≡ Some p → IsNamed p
named_there [] k p named there = absurd (cc)
named_there (q ∷ ports) zero p named there = let same : q ≡ p = cc there in subst IsNamed same named.0
named_there (q ∷ ports) (suc k) p named there = named_there ports k p named.1 there

pub ground_there : (ports : List ProgramPort) (k : ℕ) (p : ProgramPort) → AllByRecursion (λ q. IsPortType (ground_type q.ground)) ports → slice_get ports k ≡ Some p → IsPortType (ground_type p.ground)
ground_there [] k p all there = absurd (cc)
ground_there (q ∷ ports) zero p all there = let same : q ≡ p = cc there in subst (λ (r : ProgramPort). IsPortType (ground_type r.ground)) same all.0
ground_there (q ∷ ports) (suc k) p all there = ground_there ports k p all.1 there

abbrev IsPort : List ProgramPort → ℕ → Type 0
IsPort ports k = k < length ports

names_code : (ports : List ProgramPort) → AllByRecursion IsNamed ports → AreApart ports → IsCode ℕ (IsPort ports) (λ k. get_or (names_of ports) k [])
names_code ports named apart k j x y is_k is_j same =
    let p = port_there ports k is_k in
    let q = port_there ports j is_j in
    let whole : ended 46 p.0.name ++ x ≡ ended 46 q.0.name ++ y = ap (λ front. front ++ x) (sym p.2) ∙ (same ∙ ap (λ front. front ++ y) q.2) in
    let known = name_code 46 refl p.0.name q.0.name x y (named_there ports k p.0 named p.1) (named_there ports j q.0 named q.1) whole in
    (apart k j p.0 q.0 p.1 q.1 known.0, known.1)

-- Events by their names.

abbrev IsPlace : Type' → ℕ → Type 0
IsPlace t j = j < length (event_heads t)

-- the place of the event whose name stands in front
abbrev place_in : Type' → List ℕ → ℕ
place_in (Exp w) bytes = if nat_eq (get_or bytes 1 0) 115 then 0 else 1
place_in (Var w) bytes = if nat_eq (get_or bytes 0 0) 114 then 0 else (if nat_eq (get_or bytes 0 0) 97 then 1 else (if nat_eq (get_or bytes 0 0) 119 then 2 else 3))
place_in t bytes = if nat_eq (get_or bytes 0 0) 114 then 0 else 1

place_found : (t : Type') (j : ℕ) (x : List ℕ) → IsPlace t j → place_in t (head_at t j ++ x) ≡ j
place_found Com zero x inside = refl
place_found Com (suc zero) x inside = refl
place_found Com (suc (suc j)) x inside = absurd (omega (arith, inside))
place_found (Exp w) zero x inside = refl
place_found (Exp w) (suc zero) x inside = refl
place_found (Exp w) (suc (suc j)) x inside = absurd (omega (arith, inside))
place_found (Var w) zero x inside = refl
place_found (Var w) (suc zero) x inside = refl
place_found (Var w) (suc (suc zero)) x inside = refl
place_found (Var w) (suc (suc (suc zero))) x inside = refl
place_found (Var w) (suc (suc (suc (suc j)))) x inside = absurd (omega (arith, inside))
place_found (Pair a b) j x inside = absurd (omega (arith, inside))
place_found (Fun a b) j x inside = absurd (omega (arith, inside))

heads_code : (t : Type') → IsCode ℕ (IsPlace t) (head_at t)
heads_code t j i x y is_j is_i same =
    let place : j ≡ i = sym (place_found t j x is_j) ∙ (ap (place_in t) same ∙ place_found t i y is_i) in
    let whole : head_at t j ++ x ≡ head_at t j ++ y = same ∙ ap (λ (k : ℕ). head_at t k ++ y) (sym place) in
    (place, append_cancel_left (head_at t j) x y whole)

-- an event that there is
event_parts : (t : Type') (j k : ℕ) → HasEvent t j k → IsPlace t j × IsValue (value_width t j) k × (line (event_text t j k) ≡ head_at t j ++ value_text (value_width t j) k)
event_parts Com zero k has = (omega arith, has, refl)
event_parts Com (suc zero) k has = (omega arith, has, refl)
event_parts Com (suc (suc j)) k has = absurd has
event_parts (Exp w) zero k has = (omega arith, has, refl)
event_parts (Exp w) (suc zero) k has = (omega arith, has, refl)
event_parts (Exp w) (suc (suc j)) k has = absurd has
event_parts (Var w) zero k has = (omega arith, has, refl)
event_parts (Var w) (suc zero) k has = (omega arith, has, refl)
event_parts (Var w) (suc (suc zero)) k has = (omega arith, has, refl)
event_parts (Var w) (suc (suc (suc zero))) k has = (omega arith, has, refl)
event_parts (Var w) (suc (suc (suc (suc j)))) k has = absurd has
event_parts (Pair a b) j k has = absurd has
event_parts (Fun a b) j k has = absurd has

event_has : (t : Type') (j k : ℕ) → IsPlace t j → IsValue (value_width t j) k → HasEvent t j k
event_has Com zero k inside is = is
event_has Com (suc zero) k inside is = is
event_has Com (suc (suc j)) k inside is = absurd (omega (arith, inside))
event_has (Exp w) zero k inside is = is
event_has (Exp w) (suc zero) k inside is = is
event_has (Exp w) (suc (suc j)) k inside is = absurd (omega (arith, inside))
event_has (Var w) zero k inside is = is
event_has (Var w) (suc zero) k inside is = is
event_has (Var w) (suc (suc zero)) k inside is = is
event_has (Var w) (suc (suc (suc zero))) k inside is = is
event_has (Var w) (suc (suc (suc (suc j)))) k inside is = absurd (omega (arith, inside))
event_has (Pair a b) j k inside is = absurd (omega (arith, inside))
event_has (Fun a b) j k inside is = absurd (omega (arith, inside))

-- each port has a first event, which has no value
first_event : (t : Type') → IsPortType t → HasEvent t 0 0
first_event Com is = refl
first_event (Exp w) is = refl
first_event (Var w) is = refl
first_event (Pair a b) is = absurd is
first_event (Fun a b) is = absurd is

-- Values.

-- a width below 64
abbrev pub IsNarrow : Option ℕ → Type 0
IsNarrow None = Unit {0}
IsNarrow (Some w) = w ≤ 64

pub narrow_value : (t : Type') (j : ℕ) → IsPortType t → IsNarrow (value_width t j)
narrow_value Com j is = tt
narrow_value (Exp w) zero is = tt
narrow_value (Exp w) (suc zero) is = omega (arith, is.1)
narrow_value (Exp w) (suc (suc j)) is = tt
narrow_value (Var w) zero is = tt
narrow_value (Var w) (suc zero) is = omega (arith, is.1)
narrow_value (Var w) (suc (suc zero)) is = omega (arith, is.1)
narrow_value (Var w) (suc (suc (suc j))) is = tt
narrow_value (Pair a b) j is = absurd is
narrow_value (Fun a b) j is = absurd is

few_values : (w : ℕ) → w ≤ 64 → 2 ^ w ≤ 2 ^ 64
few_values w narrow = pow_mono narrow

value_code : (width : Option ℕ) → IsNarrow width → IsCode ℕ (IsValue width) (value_text width)
value_code None narrow j k x y is_j is_k same = (is_j ∙ sym is_k, same)
value_code (Some w) narrow j k x y is_j is_k same =
    let most : ℕ = 2 ^ w - 1 in
    number_code 0 most 10 (omega (arith, few_values w narrow, is_j)) refl j k x y (omega arith, omega (arith, is_j)) (omega arith, omega (arith, is_k)) same

-- the least value
some_value : (width : Option ℕ) → IsValue width 0
some_value None = refl
some_value (Some w) = pow_pos w

-- where no number below 2^w stands, no value does
pub no_value : (w high : ℕ) (text : List ℕ) (at place : ℕ) → high ≡ 2 ^ w - 1 → Misses (IsNumberText 0 high 10) text at place → Misses (IsValueText (Some w)) text at place
no_value w high text at place is =
    misses_as (IsNumberText 0 high 10) (IsValueText (Some w)) text at place
    (λ bytes item. (item.0, omega (arith, item.1.1, is, pow_pos w), item.2))
    (λ bytes item. (item.0, (omega arith, omega (arith, item.1, is)), item.2))

-- Labels.

abbrev label_of : ℕ → ℕ → ℕ → Label
label_of k j value = record { port = k; place = j; value = value }

type_there : (ports : List ProgramPort) (k : ℕ) (p : ProgramPort) → slice_get ports k ≡ Some p → type_at ports k ≡ ground_type p.ground
type_there ports k p there = ap port_type there

label_parts : (ports : List ProgramPort) (o : Label) (p : ProgramPort) → slice_get ports o.port ≡ Some p
    → line (label_text ports o) ≡ get_or (names_of ports) o.port [] ++ line (event_text (type_at ports o.port) o.place o.value)
label_parts ports o p there =
    let event : List ℕ = event_text (ground_type p.ground) o.place o.value in
    let shown : label_text ports o ≡ dotted_name p ++ event = ap (λ (port : Option ProgramPort). port_label port o) there in
    ap line shown
    ∙ (append_assoc (dotted_name p) event (10 ∷ [])
    ∙ (λ i. sym (name_there ports o.port p there) i ++ line (event_text (sym (type_there ports o.port p there) i) o.place o.value)))

-- there is a label
pub some_label : (ports : List ProgramPort) → ArePorts ports → (o : Label) × IsLabel ports o
some_label ports are =
    let port = port_there ports 0 are.some in
    (label_of 0 0 0, (port.0, port.1, first_event (ground_type port.0.ground) (ground_there ports 0 port.0 are.types port.1)))

-- by its port
port_stage : (ports : List ProgramPort) → AllByRecursion IsNamed ports → ArePorts ports → Stage Label ℕ (LabelLeft ports) (IsPort ports) (λ k. get_or (names_of ports) k []) (EventLeft ports)
port_stage ports named are =
    record {
      to = λ o bytes left. to o bytes left;
      from = λ o bytes behind. from o bytes behind;
      code = names_code ports named are.apart;
      completes = some_event;
    }
  where
    to : (o : Label) (bytes : List ℕ) → LabelLeft ports o bytes → Behind Label ℕ (IsPort ports) (λ k. get_or (names_of ports) k []) (EventLeft ports) o bytes
    to o bytes ((p, there, has), same) = (
      o.port,
      line (event_text (type_at ports o.port) o.place o.value),
      within ports o.port p there,
      (refl, subst (λ (t : Type'). HasEvent t o.place o.value) (sym (type_there ports o.port p there)) has, refl),
      same ∙ label_parts ports o p there,
    )

    from : (o : Label) (bytes : List ℕ) → Behind Label ℕ (IsPort ports) (λ k. get_or (names_of ports) k []) (EventLeft ports) o bytes → LabelLeft ports o bytes
    from o bytes (k, more, inside, (here, has, left), same) =
        let port = port_there ports k inside in
        let there : slice_get ports o.port ≡ Some port.0 = ap (slice_get ports) here ∙ port.1 in
        let event : HasEvent (ground_type port.0.ground) o.place o.value = subst (λ (t : Type'). HasEvent t o.place o.value) (type_there ports k port.0 port.1) has in
        let name : get_or (names_of ports) k [] ≡ get_or (names_of ports) o.port [] = ap (λ (n : ℕ). get_or (names_of ports) n []) (sym here) in
        let text : more ≡ line (event_text (type_at ports o.port) o.place o.value) = left ∙ ap (λ (n : ℕ). line (event_text (type_at ports n) o.place o.value)) (sym here) in
        ((port.0, there, event), same ∙ ((λ i. name i ++ text i) ∙ sym (label_parts ports o port.0 there)))

    some_event : (k : ℕ) → IsPort ports k → (bytes : List ℕ) × HasLeft Label (EventLeft ports k) bytes
    some_event k inside =
        let port = port_there ports k inside in
        let ground = subst IsPortType (sym (type_there ports k port.0 port.1)) (ground_there ports k port.0 are.types port.1) in
        (line (event_text (type_at ports k) 0 0), (label_of k 0 0, (refl, first_event (type_at ports k) ground, refl)))

-- by its event
event_stage : (ports : List ProgramPort) (k : ℕ) → Stage Label ℕ (EventLeft ports k) (IsPlace (type_at ports k)) (head_at (type_at ports k)) (ValueLeft ports k)
event_stage ports k =
    record {
      to = λ o bytes left. to o bytes left;
      from = λ o bytes behind. from o bytes behind;
      code = heads_code (type_at ports k);
      completes = λ j inside. (value_text (value_width (type_at ports k) j) 0, (label_of k j 0, (refl, refl, some_value (value_width (type_at ports k) j), refl)));
    }
  where
    to : (o : Label) (bytes : List ℕ) → EventLeft ports k o bytes → Behind Label ℕ (IsPlace (type_at ports k)) (head_at (type_at ports k)) (ValueLeft ports k) o bytes
    to o bytes (here, has, same) =
        let parts = event_parts (type_at ports k) o.place o.value has in
        (o.place, value_text (value_width (type_at ports k) o.place) o.value, parts.0, (here, refl, parts.1, refl), same ∙ parts.2)

    from : (o : Label) (bytes : List ℕ) → Behind Label ℕ (IsPlace (type_at ports k)) (head_at (type_at ports k)) (ValueLeft ports k) o bytes → EventLeft ports k o bytes
    from o bytes (j, more, inside, (here, place, is, left), same) =
        let t : Type' = type_at ports k in
        let has : HasEvent t o.place o.value = subst (λ (i : ℕ). HasEvent t i o.value) (sym place) (event_has t j o.value inside is) in
        let parts = event_parts t o.place o.value has in
        let text : head_at t j ++ more ≡ head_at t o.place ++ value_text (value_width t o.place) o.value =
        (λ i. head_at t (sym place i) ++ left i) ∙ ap (λ (i : ℕ). head_at t o.place ++ value_text (value_width t i) o.value) (sym place) in
        (here, has, same ∙ (text ∙ sym parts.2))

-- by its value
value_stage : (ports : List ProgramPort) (k j : ℕ) → IsNarrow (value_width (type_at ports k) j)
    → Stage Label ℕ (ValueLeft ports k j) (IsValue (value_width (type_at ports k) j)) (value_text (value_width (type_at ports k) j)) (λ value. End Label (label_of k j value))
value_stage ports k j narrow =
    record {
      to = λ o bytes left. to o bytes left;
      from = λ o bytes behind. from o bytes behind;
      code = value_code width narrow;
      completes = λ value is. ([], (label_of k j value, (refl, refl)));
    }
  where
    width : Option ℕ
    width = value_width (type_at ports k) j

    to : (o : Label) (bytes : List ℕ) → ValueLeft ports k j o bytes → Behind Label ℕ (IsValue width) (value_text width) (λ value. End Label (label_of k j value)) o bytes
    to o bytes (here, place, is, same) =
        (o.value, [], is, ((λ i. label_of (here i) (place i) o.value), refl), same ∙ sym (append-nil (value_text width o.value)))

    from : (o : Label) (bytes : List ℕ) → Behind Label ℕ (IsValue width) (value_text width) (λ value. End Label (label_of k j value)) o bytes → ValueLeft ports k j o bytes
    from o bytes (value, more, is, (whole, nothing), same) = (
      ap (λ (l : Label). l.port) whole,
      ap (λ (l : Label). l.place) whole,
      subst (λ (n : ℕ). IsValue width n) (sym (ap (λ (l : Label). l.value) whole)) is,
      same ∙ ((λ i. value_text width value ++ nothing i) ∙ (append-nil (value_text width value) ∙ ap (value_text width) (sym (ap (λ (l : Label). l.value) whole)))),
    )

narrow_at : (ports : List ProgramPort) (k j : ℕ) → ArePorts ports → k < length ports → IsNarrow (value_width (type_at ports k) j)
narrow_at ports k j are inside =
    let port = port_there ports k inside in
    narrow_value (type_at ports k) j (subst IsPortType (sym (type_there ports k port.0 port.1)) (ground_there ports k port.0 are.types port.1))

-- labels don't begin one another
label_one : (ports : List ProgramPort) → AllByRecursion IsNamed ports → ArePorts ports → IsOne Label (LabelLeft ports)
label_one ports named are =
    stage_one Label ℕ (LabelLeft ports) (IsPort ports) (λ k. get_or (names_of ports) k []) (EventLeft ports) (port_stage ports named are)
    (λ k inside. stage_one Label ℕ (EventLeft ports k) (IsPlace (type_at ports k)) (head_at (type_at ports k)) (ValueLeft ports k) (event_stage ports k)
    (λ j place. stage_one Label ℕ (ValueLeft ports k j) (IsValue (value_width (type_at ports k) j)) (value_text (value_width (type_at ports k) j)) (λ value. End Label (label_of k j value)) (value_stage ports k j (narrow_at ports k j are inside))
    (λ value is. one_end Label (label_of k j value))))

pub label_code : (ports : List ProgramPort) → AllByRecursion IsNamed ports → ArePorts ports → IsCode Label (IsLabel ports) (λ o. line (label_text ports o))
label_code ports named are o q x y is_o is_q same =
    label_one ports named are o q (line (label_text ports o)) (line (label_text ports q)) x y (is_o, refl) (is_q, refl) same

-- Where the reader stands.

pub port_passed : (ports : List ProgramPort) → AllByRecursion IsNamed ports → ArePorts ports → (old new : TextAt) (k : ℕ) → k < length ports → Passed old new (get_or (names_of ports) k [])
    → Leads Label (LabelLeft ports) (EventLeft ports k) old new
port_passed ports named are old new k inside passed =
    item_passed Label ℕ (LabelLeft ports) (IsPort ports) (λ n. get_or (names_of ports) n []) (EventLeft ports) (port_stage ports named are) old new k inside passed

pub no_port : (ports : List ProgramPort) → AllByRecursion IsNamed ports → ArePorts ports → (old : TextAt) (place : ℕ) → Misses (IsAmong (names_of ports)) old.text old.at place → Breaks Label (LabelLeft ports) old place
no_port ports named are old place misses =
    item_missed Label ℕ (LabelLeft ports) (IsPort ports) (λ n. get_or (names_of ports) n []) (EventLeft ports) (port_stage ports named are) old place
    (misses_as (IsAmong (names_of ports)) (IsTextOf ℕ (IsPort ports) (λ n. get_or (names_of ports) n [])) old.text old.at place
    (λ bytes item. (item.0, omega (arith, item.1, length-map ports dotted_name), item.2))
    (λ bytes item. (item.0, omega (arith, item.1, length-map ports dotted_name), item.2)) misses)

pub event_passed : (ports : List ProgramPort) (old mid new : TextAt) (k j : ℕ) → Leads Label (LabelLeft ports) (EventLeft ports k) old mid → j < length (event_heads (type_at ports k)) → Passed mid new (head_at (type_at ports k) j)
    → Leads Label (LabelLeft ports) (ValueLeft ports k j) old new
event_passed ports old mid new k j far inside passed =
    leads_on Label (LabelLeft ports) (EventLeft ports k) (ValueLeft ports k j) old mid new far
    (item_passed Label ℕ (EventLeft ports k) (IsPlace (type_at ports k)) (head_at (type_at ports k)) (ValueLeft ports k) (event_stage ports k) mid new j inside passed)

pub no_event : (ports : List ProgramPort) (old mid : TextAt) (k place : ℕ) → Leads Label (LabelLeft ports) (EventLeft ports k) old mid → Misses (IsAmong (event_heads (type_at ports k))) mid.text mid.at place → Breaks Label (LabelLeft ports) old place
no_event ports old mid k place far misses =
    breaks_on Label (LabelLeft ports) (EventLeft ports k) old mid place far
    (item_missed Label ℕ (EventLeft ports k) (IsPlace (type_at ports k)) (head_at (type_at ports k)) (ValueLeft ports k) (event_stage ports k) mid place misses)

pub value_passed : (ports : List ProgramPort) → ArePorts ports → (old mid new : TextAt) (k j value : ℕ) → k < length ports → Leads Label (LabelLeft ports) (ValueLeft ports k j) old mid → IsValue (value_width (type_at ports k) j) value
    → Passed mid new (value_text (value_width (type_at ports k) j) value) → Leads Label (LabelLeft ports) (End Label (label_of k j value)) old new
value_passed ports are old mid new k j value inside far is passed =
    leads_on Label (LabelLeft ports) (ValueLeft ports k j) (End Label (label_of k j value)) old mid new far
    (item_passed Label ℕ (ValueLeft ports k j) (IsValue (value_width (type_at ports k) j)) (value_text (value_width (type_at ports k) j)) (λ v. End Label (label_of k j v)) (value_stage ports k j (narrow_at ports k j are inside)) mid new value is passed)

pub value_missed : (ports : List ProgramPort) → ArePorts ports → (old mid : TextAt) (k j place : ℕ) → k < length ports → Leads Label (LabelLeft ports) (ValueLeft ports k j) old mid
    → Misses (IsValueText (value_width (type_at ports k) j)) mid.text mid.at place → Breaks Label (LabelLeft ports) old place
value_missed ports are old mid k j place inside far misses =
    breaks_on Label (LabelLeft ports) (ValueLeft ports k j) old mid place far
    (item_missed Label ℕ (ValueLeft ports k j) (IsValue (value_width (type_at ports k) j)) (value_text (value_width (type_at ports k) j)) (λ v. End Label (label_of k j v)) (value_stage ports k j (narrow_at ports k j are inside)) mid place misses)

-- What the reader of a label asks of its ports.

pub some_names : (ports : List ProgramPort) → ArePorts ports → 0 < length (names_of ports)
some_names ports are = omega (arith, are.some, length-map ports dotted_name)

pub inside_names : (ports : List ProgramPort) (k : ℕ) → k < length (names_of ports) → k < length ports
inside_names ports k inside = omega (arith, inside, length-map ports dotted_name)

pub type_is : (ports : List ProgramPort) (k : ℕ) → ArePorts ports → k < length ports → IsPortType (type_at ports k)
type_is ports k are inside =
    let port = port_there ports k inside in
    subst IsPortType (sym (type_there ports k port.0 port.1)) (ground_there ports k port.0 are.types port.1)

pub few_events : (t : Type') → length (event_heads t) ≤ 4
few_events Com = omega arith
few_events (Exp w) = omega arith
few_events (Var w) = omega arith
few_events (Pair a b) = omega arith
few_events (Fun a b) = omega arith

-- The turns of the reader of a label. It has the names of ports in a table, and the type of the port at hand.

pub port_there_passed : (ports : List ProgramPort) → ArePorts ports → (old new : TextAt) (k : ℕ) (names : List (List ℕ)) → names ≡ names_of ports → k < length names → Passed old new (get_or names k [])
    → (k < length ports) × Leads Label (LabelLeft ports) (EventLeft ports k) old new
port_there_passed ports are old new k names same inside passed =
    let there = inside_names ports k (subst (λ (table : List (List ℕ)). k < length table) same inside) in
    (there, port_passed ports are.named are old new k there (subst (λ (table : List (List ℕ)). Passed old new (get_or table k [])) same passed))

pub no_event_there : (ports : List ProgramPort) (old mid : TextAt) (k : ℕ) (t : Type') (place : ℕ) → t ≡ type_at ports k → Leads Label (LabelLeft ports) (EventLeft ports k) old mid
    → Misses (IsAmong (event_heads t)) mid.text mid.at place → Breaks Label (LabelLeft ports) old place
no_event_there ports old mid k t place same far misses =
    no_event ports old mid k place far (subst (λ (u : Type'). Misses (IsAmong (event_heads u)) mid.text mid.at place) same misses)

pub event_there_passed : (ports : List ProgramPort) (old mid new : TextAt) (k j : ℕ) (t : Type') → t ≡ type_at ports k → Leads Label (LabelLeft ports) (EventLeft ports k) old mid → j < length (event_heads t)
    → Passed mid new (head_at t j) → Leads Label (LabelLeft ports) (ValueLeft ports k j) old new
event_there_passed ports old mid new k j t same far inside passed =
    event_passed ports old mid new k j far (subst (λ (u : Type'). j < length (event_heads u)) same inside) (subst (λ (u : Type'). Passed mid new (head_at u j)) same passed)

pub no_value_there : (ports : List ProgramPort) → ArePorts ports → (old mid : TextAt) (k j : ℕ) (t : Type') (place : ℕ) → k < length ports → t ≡ type_at ports k → Leads Label (LabelLeft ports) (ValueLeft ports k j) old mid
    → Misses (IsValueText (value_width t j)) mid.text mid.at place → Breaks Label (LabelLeft ports) old place
no_value_there ports are old mid k j t place inside same far misses =
    value_missed ports are old mid k j place inside far (subst (λ (u : Type'). Misses (IsValueText (value_width u j)) mid.text mid.at place) same misses)

pub value_there_passed : (ports : List ProgramPort) → ArePorts ports → (old mid new : TextAt) (k j value : ℕ) (t : Type') → k < length ports → t ≡ type_at ports k → Leads Label (LabelLeft ports) (ValueLeft ports k j) old mid
    → IsValue (value_width t j) value → Passed mid new (value_text (value_width t j) value) → Leads Label (LabelLeft ports) (End Label (record { port = k; place = j; value = value })) old new
value_there_passed ports are old mid new k j value t inside same far is passed =
    value_passed ports are old mid new k j value inside far (subst (λ (u : Type'). IsValue (value_width u j) value) same is)
    (subst (λ (u : Type'). Passed mid new (value_text (value_width u j) value)) same passed)
