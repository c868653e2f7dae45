-- Records that carry a relay, the setting that they passed half way along their leg. Assumes nothing.
use Rattle.std.specs.Prelude.{ℕ, ◌/◌, cond, ◌==◌}
use Rattle.legs.specs.declared.relayed.Relayed.{Relayed}
use Rattle.legs.specs.Kinds.{Kind}

-- for a leg of length n: a record gets its own setting as relay where it enters layer n / 2, and hands it on; before
-- that the relay is 0
abbrev pub relays : ℕ → Kind Relayed
relays n =
    record {
      setting = λ r. r.setting;
      begin = λ s. record { setting = s; relay = 0 };
      onward = λ d r u. record { setting = u; relay = cond (d == n / 2) u r.relay };
    }
