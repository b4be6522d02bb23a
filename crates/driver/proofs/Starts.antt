-- What `configure` starts with. Assumes nothing.
use Rattle.config.specs.declared.ActuatorConfig.{ActuatorConfig}
use Rattle.config.specs.declared.DeviceConfig.{DeviceConfig}
use Rattle.da728x.specs.declared.DA728x.{DA728x}
use Rattle.std.specs.Prelude.{Some}

-- the record that its session carries
abbrev pub configured : DA728x → ActuatorConfig → DeviceConfig → DA728x
configured r a d = record { address = r.address; variant = r.variant; settings = Some (a, d); sequences = 0 }
