-- The kind that a record type makes, and the records of a setting and a relay. Assumes nothing.
use Rattle.std.specs.Prelude.{ℕ, cond, ◌==◌}
use Rattle.legs.specs.declared.relayed.Relayed.{Relayed}
use Rattle.legs.specs.Kinds.{Kind}

-- the kind of record by what it tells, how it opens and how it is carried on, with relays taken at depth h
abbrev pub kind : {R : Type 0} → (R → ℕ) → (ℕ → R) → (ℕ → ℕ → R → ℕ → R) → ℕ → Kind R
kind tells opens carries h = record { setting = tells; begin = opens; onward = carries h }

abbrev pub relay_opens : ℕ → Relayed
relay_opens s = record { setting = s; relay = 0 }

-- the relay is the setting itself at the depth where relays are taken, and handed on elsewhere
abbrev pub relay_carries : ℕ → ℕ → Relayed → ℕ → Relayed
relay_carries h d r u = record { setting = u; relay = cond (d == h) u r.relay }

abbrev pub relay_blank : Relayed
relay_blank = record { setting = 0; relay = 0 }
