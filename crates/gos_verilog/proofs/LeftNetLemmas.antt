-- The declarations of nets of ports, as lines of one slot, and what may be left behind each.
use Rattle.std.proofs.Common.{◌≡◌, ◌⊎◌, inl, inr, ℕ, zero, suc, ◌+◌, ◌-◌, ◌≤◌, Bool, true, false, List, [], ◌∷◌, ◌++◌, map, drop, get_or, refl, sym, ◌∙◌, ap, subst, arith, append_assoc, append-nil, codes, Bor, Result, Ok, Err}
use Rattle.std.specs.Fmt.{decimal}
use Rattle.gos_lex.specs.Items.{TextAt, Misses}
use Rattle.gos_netlist.specs.Nets.{Side, Give}
use Rattle.gos_netlist.specs.Events.{is_input}
use Rattle.gos_lex.specs.ItemTexts.{Passed, IsInRange, ended}
use Rattle.gos_lex.proofs.PassedLemmas.{passed_as, passed_both}
use Rattle.gos_lex.proofs.SequenceLemmas.{IsCode, misses_as}
use Rattle.gos_verilog.specs.declared.slots.TheConstants.{LAST_BIT}
use Rattle.gos_verilog.specs.declared.port_net.Role.{Role}
use Rattle.gos_verilog.specs.declared.port_net.Role.TheVariants.{AnsValue, WriteValue}
use Rattle.gos_verilog.specs.PortNets.{PortNet, suffix, direction}
use Rattle.gos_verilog.specs.Lines.{port_declaration}
use Rattle.std.specs.Prelude.{IfOk}
use Rattle.gos_verilog.proofs.SuffixLemmas.{suffix_code}
use Rattle.std.specs.List.{flat_map, AllByRecursion}
use Rattle.gos_verilog.specs.inner.Stages.{HaveWidths, declared_net}
use Rattle.gos_verilog.specs.inner.Slots.{Slot', FitSlots, line_text, IsLine}
use Rattle.gos_verilog.specs.inner.Breaks.{Left, PassedIn, Either, LeadsOn, BreaksFrom}
use Rattle.gos_verilog.specs.inner.Left.{AreNamed, IsNamed, only_names, IsNetOf, IsDeclaration, net_front, is_first, least_of, most_of, IsDirection, IsDeclared, net_of, net_text, side_behind, last_behind, LeftNets}
use Rattle.gos_verilog.proofs.DeclarationLemmas.{net_declaration_code}
use Rattle.gos_verilog.proofs.AmongLemmas.{either_misses}
use Rattle.gos_verilog.proofs.BreakLemmas.{on_item, on_both, on_breaks, first_breaks}
use Rattle.gos_verilog.proofs.WordLemmas.{shift_breaks}
use Rattle.gos_types.specs.Widths.{IsWidth}
use Rattle.gos_verilog.proofs.FoundLemmas.{declared_append}
use Rattle.gos_verilog.proofs.LeftLemmas.{some_cells}
use Rattle.gos_verilog.proofs.LeftOutputLemmas.{one_number}

abbrev pub net_slot : Bool → ℕ → ℕ → Slot'
net_slot input low high = record { before = net_front input; low = low; high = high; end = 58 }

abbrev pub net_tail : List ℕ → List ℕ
net_tail name = codes "0] " ++ name ++ codes ";\n"

net_line : (input : Bool) (low high n : ℕ) (name : List ℕ) → line_text (net_slot input low high ∷ []) (net_tail name) (n ∷ []) ≡ net_text name (input, n)
net_line input low high n name =
    let front : List ℕ = net_front input in
    let digits : List ℕ = decimal n in
    let e : n ≡ n + 1 - 1 = omega arith in
    ap (λ (line : List ℕ). line ++ net_tail name) (append-nil (front ++ ended 58 digits))
    ∙ (append_assoc front (ended 58 digits) (net_tail name)
    ∙ (ap (λ (part : List ℕ). front ++ part) (append_assoc digits (58 ∷ []) (net_tail name))
    ∙ (sym (append_assoc (front ++ digits ++ codes ":0] ") name (codes ";\n") ∙ (append_assoc (front ++ digits) (codes ":0] ") (name ++ codes ";\n") ∙ append_assoc front digits (codes ":0] " ++ (name ++ codes ";\n"))))
    ∙ ap (λ (m : ℕ). front ++ decimal m ++ codes ":0] " ++ name ++ codes ";\n") e)))

pub net_misses : (input : Bool) (low high : ℕ) (name text : List ℕ) (at place : ℕ) → Misses (IsLine (net_slot input low high ∷ []) (net_tail name)) text at place → Misses (IsNetOf input low high name) text at place
net_misses input low high name text at place =
    misses_as (IsLine (net_slot input low high ∷ []) (net_tail name)) (IsNetOf input low high name) text at place
    (λ bytes line.
    let one = one_number (net_slot input low high) line.0 line.1 in
    (one.0, (one.1, one.2), line.2 ∙ (ap (line_text (net_slot input low high ∷ []) (net_tail name)) one.3 ∙ net_line input low high one.0 name)))
    (λ bytes net. (net.0 ∷ [], (net.1, tt), net.2 ∙ sym (net_line input low high net.0 name)))

pub net_passed : (input : Bool) (low high : ℕ) (name : List ℕ) (old new : TextAt) (ns : List ℕ) → FitSlots (net_slot input low high ∷ []) ns → Passed old new (line_text (net_slot input low high ∷ []) (net_tail name) ns)
    → IsInRange low high (get_or ns 0 0) × Passed old new (net_text name (input, get_or ns 0 0))
net_passed input low high name old new ns fit passed =
    let one = one_number (net_slot input low high) ns fit in
    let first : get_or ns 0 0 ≡ one.0 = ap (λ (list : List ℕ). get_or list 0 0) one.3 in (
      subst (IsInRange low high) (sym first) (one.1, one.2),
      passed_as old new (line_text (net_slot input low high ∷ []) (net_tail name) ns) (net_text name (input, get_or ns 0 0))
          (ap (line_text (net_slot input low high ∷ []) (net_tail name)) one.3 ∙ (net_line input low high one.0 name ∙ ap (λ (n : ℕ). net_text name (input, n)) (sym first))) passed,
    )

-- where the direction is known
pub known_misses : (role : Role) (side : Side) (last : ℕ) (name text : List ℕ) (at place : ℕ) → is_first role ≡ false
    → Misses (IsNetOf (is_input side (direction role)) (least_of role last) (most_of role last) name) text at place → Misses (IsDeclaration role side last name) text at place
known_misses role side last name text at place other =
    misses_as (IsNetOf (is_input side (direction role)) (least_of role last) (most_of role last) name) (IsDeclaration role side last name) text at place
    (λ bytes net. ((is_input side (direction role), net.0), (subst (λ (b : Bool). IsDirection b (is_input side (direction role)) (is_input side (direction role))) (sym other) refl, net.1), net.2))
    (λ bytes net.
    let same : net.0.0 ≡ is_input side (direction role) = subst (λ (b : Bool). IsDirection b (is_input side (direction role)) net.0.0) other net.1.0 in
    (net.0.1, net.1.1, net.2 ∙ ap (λ (b : Bool). net_text name (b, net.0.1)) same))

-- where it is open
pub open_misses : (role : Role) (side : Side) (last : ℕ) (name text : List ℕ) (at a b r : ℕ) → is_first role ≡ true → a ≤ r → b ≤ r → (r ≡ a) ⊎ (r ≡ b)
    → Misses (IsNetOf true (least_of role last) (most_of role last) name) text at a → Misses (IsNetOf false (least_of role last) (most_of role last) name) text at b
    → Misses (IsDeclaration role side last name) text at r
open_misses role side last name text at a b r first over_a over_b max one other =
    misses_as (Either In Out) (IsDeclaration role side last name) text at r to (λ bytes net. from net.0.0 net.0.1 bytes net.1.1 net.2) (either_misses In Out text at a b r over_a over_b max one other)
  where
    In : Left
    In = IsNetOf true (least_of role last) (most_of role last) name

    Out : Left
    Out = IsNetOf false (least_of role last) (most_of role last) name

    either_way : (input : Bool) → IsDirection (is_first role) (is_input side (direction role)) input
    either_way input = subst (λ (k : Bool). IsDirection k (is_input side (direction role)) input) (sym first) tt

    to : (bytes : List ℕ) → Either In Out bytes → IsDeclaration role side last name bytes
    to bytes (inl net) = ((true, net.0), (either_way true, net.1), net.2)
    to bytes (inr net) = ((false, net.0), (either_way false, net.1), net.2)

    from : (input : Bool) (n : ℕ) (bytes : List ℕ) → IsInRange (least_of role last) (most_of role last) n → bytes ≡ net_text name (input, n) → Either In Out bytes
    from true n bytes is text = inl (n, is, text)
    from false n bytes is text = inr (n, is, text)

-- last bits are few
pub most_few : (role : Role) (last : ℕ) → last ≤ LAST_BIT → most_of role last ≤ LAST_BIT
most_few AnsValue last few = omega arith
most_few WriteValue last few = few
most_few role last few = omega arith

pub behind_few : (role : Role) (last n : ℕ) → last ≤ LAST_BIT → IsInRange (least_of role last) (most_of role last) n → last_behind role last n ≤ LAST_BIT
behind_few AnsValue last n few is = is.1
behind_few role last n few is = few

least_most : (role : Role) (last : ℕ) → least_of role last ≤ most_of role last
least_most AnsValue last = omega arith
least_most WriteValue last = omega arith
least_most role last = omega arith

pub declaration_code : (role : Role) (side : Side) (last : ℕ) (name : List ℕ) → last ≤ LAST_BIT → IsCode (Bool × ℕ) (IsDeclared role side last) (net_text name)
declaration_code role side last name few v w x y is_v is_w same =
    let bound = most_few role last few in
    let known = net_declaration_code (net_of name v) (net_of name w) x y (omega arith, omega (arith, is_v.1.1, bound)) (omega arith, omega (arith, is_w.1.1, bound)) refl same in
    let last_bit : v.1 ≡ w.1 = omega (arith, known.1) in
    ((λ j. (known.0 j, last_bit j)), known.2)

-- something may be left
pub some_nets : (before : List PortNet) (side : Side) (last : ℕ) (named : List (Role × List ℕ)) → (x : List ℕ) × LeftNets before side last named x
some_nets before side last [] = some_cells before [] (omega arith)
some_nets before side last (n ∷ named) =
    let input : Bool = is_input side (direction n.0) in
    let v : Bool × ℕ = (input, least_of n.0 last) in
    let rest = some_nets (before ++ net_of n.1 v ∷ []) (side_behind (is_first n.0) side input) (last_behind n.0 last (least_of n.0 last)) named in
    (net_text n.1 v ++ rest.0, (v, rest.0, (by (is_first n.0) input, (omega arith, least_most n.0 last)), rest.1, refl))
  where
    by : (b input : Bool) → IsDirection b input input
    by true input = tt
    by false input = refl

-- a declaration is passed
pub nets_on : (list : List (Role × List ℕ)) (k : ℕ) (n : Role × List ℕ) (nets : List PortNet) (side : Side) (last : ℕ) (old now new : TextAt) (v : Bool × ℕ) → last ≤ LAST_BIT → drop k list ≡ n ∷ drop (k + 1) list
    → IsDeclared n.0 side last v → LeadsOn (LeftNets [] Give 0 list) (LeftNets nets side last (drop k list)) old now → Passed now new (net_text n.1 v)
    → LeadsOn (LeftNets [] Give 0 list) (LeftNets (nets ++ net_of n.1 v ∷ []) (side_behind (is_first n.0) side v.0) (last_behind n.0 last v.1) (drop (k + 1) list)) old new
nets_on list k n nets side last old now new v few cut is far passed =
    let more : List (Role × List ℕ) = drop (k + 1) list in
    let L : Left = LeftNets (nets ++ net_of n.1 v ∷ []) (side_behind (is_first n.0) side v.0) (last_behind n.0 last v.1) more in
    on_both (LeftNets [] Give 0 list) (LeftNets nets side last (drop k list)) L old now new far
    (subst (λ (left : List (Role × List ℕ)). LeadsOn (LeftNets nets side last left) L now new) (sym cut)
    (on_item (Bool × ℕ) (IsDeclared n.0 side last) (net_text n.1)
    (λ u. LeftNets (nets ++ net_of n.1 u ∷ []) (side_behind (is_first n.0) side u.0) (last_behind n.0 last u.1) more) now new v (declaration_code n.0 side last n.1 few) is passed))

-- a declaration breaks off in the rest of the text
pub nets_break : (list : List (Role × List ℕ)) (k : ℕ) (n : Role × List ℕ) (nets : List PortNet) (side : Side) (last : ℕ) (text rest : List ℕ) (from at place : ℕ) → drop k list ≡ n ∷ drop (k + 1) list
    → LeadsOn (LeftNets [] Give 0 list) (LeftNets nets side last (drop k list)) (record { text = text; at = from }) (record { text = text; at = at }) → rest ≡ drop at text
    → Misses (IsDeclaration n.0 side last n.1) rest 0 place → BreaksFrom (LeftNets [] Give 0 list) (record { text = text; at = from }) (at + place)
nets_break list k n nets side last text rest from at place cut far is misses =
    let more : List (Role × List ℕ) = drop (k + 1) list in
    on_breaks (LeftNets [] Give 0 list) (LeftNets nets side last (drop k list)) (record { text = text; at = from }) (record { text = text; at = at }) (at + place) far
    (shift_breaks (LeftNets nets side last (drop k list)) text rest at place is
    (subst (λ (left : List (Role × List ℕ)). BreaksFrom (LeftNets nets side last left) (record { text = rest; at = 0 }) place) (sym cut)
    (first_breaks (Bool × ℕ) (IsDeclared n.0 side last) (net_text n.1)
    (λ u. LeftNets (nets ++ net_of n.1 u ∷ []) (side_behind (is_first n.0) side u.0) (last_behind n.0 last u.1) more) rest 0 place
    (λ u _. some_nets (nets ++ net_of n.1 u ∷ []) (side_behind (is_first n.0) side u.0) (last_behind n.0 last u.1) more) misses)))

-- the nets of the first k names are read
pub record NetsRead (names : List (Bor (List ℕ))) (k : ℕ) (nets : List PortNet) (text : List ℕ) (from at : ℕ) : Type 0 where
  pub wide : HaveWidths nets
  pub bare : map declared_net nets ≡ nets
  pub names_are : map (λ (n : PortNet). n.name) nets ++ map (λ (b : Bor (List ℕ)). b.now) (drop k names) ≡ map (λ (b : Bor (List ℕ)). b.now) names
  pub passed : PassedIn text from at (flat_map port_declaration nets)

-- a name has one role
pub one_role : (name front other : List ℕ) (r role : Role) → name ≡ other ++ suffix r → name ≡ front ++ suffix role → r ≡ role
one_role name front other r role one two = (suffix_code other front r role (sym one ∙ two)).1

-- what is read of a net
abbrev pub ReadAs : List ℕ → PortNet → ℕ → List ℕ → (Bool × ℕ → Type 0) → Type 0
ReadAs rest net len name Is = (v : Bool × ℕ) × Is v × (net ≡ net_of name v) × PassedIn rest 0 len (net_text name v)

abbrev pub ReadOf : List ℕ → PortNet → ℕ → List ℕ → Bool → Role → ℕ → Type 0
ReadOf rest net len name input role last = (n : ℕ) × IsInRange (least_of role last) (most_of role last) n × (net ≡ net_of name (input, n)) × PassedIn rest 0 len (net_text name (input, n))

pub read_known : (role : Role) (side : Side) (last : ℕ) (input : Bool) (name rest : List ℕ) (net : PortNet) (len : ℕ) → is_first role ≡ false → input ≡ is_input side (direction role)
    → ReadOf rest net len name input role last → ReadAs rest net len name (IsDeclared role side last)
read_known role side last input name rest net len other same (n, is, net_is, passed) =
    ((input, n), (subst (λ (b : Bool). IsDirection b (is_input side (direction role)) input) (sym other) same, is), net_is, passed)

pub read_open : (role : Role) (side : Side) (last : ℕ) (input : Bool) (name rest : List ℕ) (net : PortNet) (len : ℕ) → is_first role ≡ true
    → ReadOf rest net len name input role last → ReadAs rest net len name (IsDeclared role side last)
read_open role side last input name rest net len first (n, is, net_is, passed) =
    ((input, n), (subst (λ (b : Bool). IsDirection b (is_input side (direction role)) input) (sym first) tt, is), net_is, passed)

pub if_ok : {T E : Type 0} (r : Result T E) (P Q : T → Type 0) → ((x : T) → P x → Q x) → IfOk r P → IfOk r Q
if_ok (Ok x) P Q so is = so x is
if_ok (Err e) P Q so is = tt

-- the net at a place, by its name
pub record NamedAt (named : List (Role × List ℕ)) (k : ℕ) (name : List ℕ) : Type 0 where
  pub net : Role × List ℕ
  pub cut : drop k named ≡ net ∷ drop (k + 1) named
  pub is : net.1 ≡ name
  pub front : List ℕ
  pub role : name ≡ front ++ suffix net.0

named_from : (names : List (Bor (List ℕ))) (named : List (Role × List ℕ)) (k : ℕ) (name : Bor (List ℕ)) (more : List (Bor (List ℕ))) → map (λ (b : Bor (List ℕ)). b.now) names ≡ only_names named
    → AllByRecursion IsNamed named → drop k names ≡ name ∷ more → (net : Role × List ℕ) × (drop k named ≡ net ∷ drop (suc k) named) × (net.1 ≡ name.now) × IsNamed net
named_from [] named zero name more same are cut = absurd (cc cut)
named_from [] named (suc k) name more same are cut = absurd (cc cut)
named_from (b ∷ names) [] k name more same are cut = absurd (cc same)
named_from (b ∷ names) (n ∷ named) zero name more same are cut =
    let first : b ≡ name = cc cut in let now : b.now ≡ n.1 = cc same in (n, refl, sym now ∙ ap (λ (x : Bor (List ℕ)). x.now) first, are.0)
named_from (b ∷ names) (n ∷ named) (suc k) name more same are cut = named_from names named k name more (cc same) are.1 cut

pub named_at : (names : List (Bor (List ℕ))) (named : List (Role × List ℕ)) (k : ℕ) (name : Bor (List ℕ)) → AreNamed named names → drop k names ≡ name ∷ drop (k + 1) names → NamedAt named k name.now
named_at names named k name are cut =
    let known = named_from names named k name (drop (k + 1) names) are.0 are.1 cut in
    let e : suc k ≡ k + 1 = omega arith in
    record {
      net = known.0;
      cut = known.1 ∙ ap (λ (n : ℕ). known.0 ∷ drop n named) e;
      is = known.2;
      front = known.3.0;
      role = sym known.2 ∙ known.3.1;
    }

wide_join : (nets : List PortNet) (n : PortNet) → HaveWidths nets → IsWidth n.width → HaveWidths (nets ++ n ∷ [])
wide_join [] n all is = (is, tt)
wide_join (m ∷ nets) n all is = (all.0, wide_join nets n all.1 is)

bare_join : (nets : List PortNet) (n : PortNet) → map declared_net nets ≡ nets → declared_net n ≡ n → map declared_net (nets ++ n ∷ []) ≡ nets ++ n ∷ []
bare_join nets n all is = declared_append nets (n ∷ []) ∙ (λ j. all j ++ is j ∷ [])

names_join : (nets : List PortNet) (n : PortNet) (more : List (List ℕ)) → map (λ (m : PortNet). m.name) (nets ++ n ∷ []) ++ more ≡ map (λ (m : PortNet). m.name) nets ++ n.name ∷ more
names_join [] n more = refl
names_join (m ∷ nets) n more = ap (λ (rest : List (List ℕ)). m.name ∷ rest) (names_join nets n more)

lines_join : (nets : List PortNet) (n : PortNet) → flat_map port_declaration (nets ++ n ∷ []) ≡ flat_map port_declaration nets ++ port_declaration n
lines_join [] n = append-nil (port_declaration n)
lines_join (m ∷ nets) n = ap (λ (rest : List ℕ). port_declaration m ++ rest) (lines_join nets n) ∙ sym (append_assoc (port_declaration m) (flat_map port_declaration nets) (port_declaration n))

pub net_read : (names : List (Bor (List ℕ))) (k : ℕ) (name : Bor (List ℕ)) (nets longer : List PortNet) (text : List ℕ) (from at new : ℕ) (v : Bool × ℕ) → drop k names ≡ name ∷ drop (k + 1) names → longer ≡ nets ++ net_of name.now v ∷ []
    → v.1 ≤ LAST_BIT → NetsRead names k nets text from at → PassedIn text at new (net_text name.now v) → NetsRead names (k + 1) longer text from new
net_read names k name nets longer text from at new v cut is few read passed =
    let n : PortNet = net_of name.now v in
    subst (λ (list : List PortNet). NetsRead names (k + 1) list text from new) (sym is)
    (record {
      wide = wide_join nets n read.wide (omega arith, omega (arith, few));
      bare = bare_join nets n read.bare refl;
      names_are = names_join nets n (map (λ (b : Bor (List ℕ)). b.now) (drop (k + 1) names))
          ∙ (ap (λ (list : List (Bor (List ℕ))). map (λ (m : PortNet). m.name) nets ++ map (λ (b : Bor (List ℕ)). b.now) list) (sym cut) ∙ read.names_are);
      passed = passed_as (record { text = text; at = from }) (record { text = text; at = new }) (flat_map port_declaration nets ++ port_declaration n) (flat_map port_declaration (nets ++ n ∷ [])) (sym (lines_join nets n))
          (passed_both (record { text = text; at = from }) (record { text = text; at = at }) (record { text = text; at = new }) (flat_map port_declaration nets) (port_declaration n) read.passed passed);
    })

pub both_ok : {T E : Type 0} (r : Result T E) (P Q R : T → Type 0) → ((x : T) → P x → Q x → R x) → IfOk r P → IfOk r Q → IfOk r R
both_ok (Ok x) P Q R so p q = so x p q
both_ok (Err e) P Q R so p q = tt

pub three_ok : {T E : Type 0} (r : Result T E) (P Q R : T → Type 0) → IfOk r P → IfOk r Q → IfOk r R → IfOk r (λ x. P x × Q x × R x)
three_ok (Ok x) P Q R p q r' = (p, q, r')
three_ok (Err e) P Q R p q r' = tt
