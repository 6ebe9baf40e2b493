-- The nets of ports in a Verilog module, and their names.
--
-- Read first: Nets and Events of gos_netlist. Each event of a port has a net for its pulse, and behind it one for its
-- number where it has bits. A net is named by its port and its role.
use Rattle.std.specs.Prelude.{ℕ, Bool, List, [], ◌∷◌, ◌++◌, codes}
use Rattle.std.specs.List.{flat_map}
use Rattle.gos_types.specs.Types.{Type', Com, Exp, Var}
use Rattle.gos_netlist.specs.Nets.{Side, NetPort}
use Rattle.gos_netlist.specs.Events.{is_input}
use Rattle.gos_types.specs.Events.{Direction, Request, Answer}
use Rattle.gos_verilog.specs.declared.port_net.Role.{Role}
use Rattle.gos_verilog.specs.declared.port_net.Role.TheVariants.{Run, Done, Ask, Ans, AnsValue, Read, Write, WriteValue}

-- what stands behind the name of the port
abbrev pub suffix : Role → List ℕ
suffix Run = codes "__run"
suffix Done = codes "__done"
suffix Ask = codes "__ask"
suffix Ans = codes "__ans"
suffix AnsValue = codes "__ansvalue"
suffix Read = codes "__read"
suffix Write = codes "__write"
suffix WriteValue = codes "__writevalue"

-- whether the net belongs to a request or to an answer
abbrev pub direction : Role → Direction
direction Run = Request
direction Done = Answer
direction Ask = Request
direction Ans = Answer
direction AnsValue = Answer
direction Read = Request
direction Write = Request
direction WriteValue = Request

-- the nets of a port of this type, in order
abbrev pub roles : Type' → List Role
roles Com = Run ∷ Done ∷ []
roles (Exp w) = Ask ∷ Ans ∷ AnsValue ∷ []
roles (Var w) = Read ∷ Ans ∷ AnsValue ∷ Write ∷ WriteValue ∷ Done ∷ []
roles t = []

-- the bits of a net of a port whose numbers have w bits: a pulse has one
abbrev pub bits : ℕ → Role → ℕ
bits w AnsValue = w
bits w WriteValue = w
bits w role = 1

-- how many bits the numbers of a port have
abbrev pub number_bits : Type' → ℕ
number_bits (Exp w) = w
number_bits (Var w) = w
number_bits t = 1

-- a net of a port: its name, whether it is an input of the module, its bits, and the cell that it is
pub record PortNet : Type 0 where
  pub name : List ℕ
  pub input : Bool
  pub width : ℕ
  pub cell : ℕ

-- the net of a port in this role, which is this cell
abbrev pub net_in_role : List ℕ → Side → ℕ → Role → ℕ → PortNet
net_in_role name side w role cell =
    record { name = name ++ suffix role; input = is_input side (direction role); width = bits w role; cell = cell }

-- the nets of a port of this name and side that are these cells, in these roles
abbrev pub nets_in_roles : List ℕ → Side → ℕ → List ℕ → List Role → List PortNet
nets_in_roles name side w [] roles = []
nets_in_roles name side w (cell ∷ cells) [] = []
nets_in_roles name side w (cell ∷ cells) (role ∷ more) = net_in_role name side w role cell ∷ nets_in_roles name side w cells more

-- the nets of a port
abbrev pub nets_of_port : NetPort → List PortNet
nets_of_port p = nets_in_roles p.name p.side (number_bits p.ty) p.nets (roles p.ty)

-- the nets of ports
abbrev pub port_nets : List NetPort → List PortNet
port_nets = flat_map nets_of_port
