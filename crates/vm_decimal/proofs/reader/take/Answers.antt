use Rattle.std.proofs.Common.{refl}
use Rattle.vm_decimal.proofs.reader.take.Goals as goal

pub returns-in-Power-Digit-clause-stands : goal.returns-in-Power-Digit-clause-stands
returns-in-Power-Digit-clause-stands c s stands =
    rw (c.in-Power-Digit.is-0, c.in-Power-Digit.is-1) (record {
      phase = refl;
      negative = stands.negative;
      digits = stands.digits;
      places = stands.places;
      down = stands.down;
      power = c.with_power_digit-reader.ensures s.power stands.power;
    })
