-- The handshakes of a part of a type, as the whole type has them.
--
-- Read first: Handshakes. Between the function that collects handshakes and its lemmas; no other crate needs it.
use Rattle.std.specs.Prelude.{List, ◌++◌}
use Rattle.gos_types.specs.declared.shakes.Role.{Role}
use Rattle.gos_types.specs.declared.shakes.Role.TheVariants.{Serve, Ask}
use Rattle.gos_types.specs.declared.shakes.Step.{Step}
use Rattle.gos_types.specs.Handshakes.{Shake, turned}

-- the role of a handshake in a part where a served one has this role
abbrev pub role_within : Role → Role → Role
role_within role Serve = role
role_within role Ask = turned role

-- a handshake of the part that stands at this way, where a served one has this role
abbrev pub within : Role → List Step → Shake → Shake
within role way h =
    record {
      role = role_within role h.role;
      ask_bits = h.ask_bits;
      answer_bits = h.answer_bits;
      path = way ++ h.path;
    }
