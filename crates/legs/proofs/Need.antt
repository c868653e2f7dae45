-- The records that a leg needs, by the layers that stand at each depth. Assumes nothing.
use Rattle.std.proofs.Common.{◌≡◌, ℕ, zero, suc, ◌+◌, ◌<◌, ◌≤◌, ◌⊎◌, length, sym, ap, ◌∙◌, inl, inr, ⊎_elim, arith}
use Rattle.std.proofs.lemmas.List.{length-map}
use Rattle.std.proofs.lemmas.Bool.{cases_lt}
use Rattle.plant.specs.Meaning.{Meaning}
use Rattle.legs.specs.Kinds.{Kind, Tells}
use Rattle.legs.specs.Layers.{Leg, layer, layer_before}
use Rattle.legs.specs.Legs.{size, end, room, most_room, need}
use Rattle.legs.proofs.Tells.{layer_settings}

module _ (m : Meaning) (g : Leg) where
  module _ {R : Type 0} (k : Kind R) (t : Tells k) where
    pub layer_size : (d : ℕ) → length (layer m k g d) ≡ size m g d
    layer_size d = sym (length-map (layer m k g d) k.setting) ∙ ap length (layer_settings m k t g d)

    -- the layer before, the present one and the next
    pub room_layers : (d : ℕ) → length (layer_before m k g d) + length (layer m k g d) + length (layer m k g (suc d)) ≡ room m g d
    room_layers zero = omega (arith, layer_size zero, layer_size (suc zero))
    room_layers (suc d) = omega (arith, layer_size d, layer_size (suc d), layer_size (suc (suc d)))

  most_room_one : (d : ℕ) → 1 ≤ most_room m g d
  most_room_one zero = omega arith
  most_room_one (suc d) = omega (arith, most_room_one d)

  most_room_below : (i d : ℕ) → i < d → room m g i ≤ most_room m g d
  most_room_below i zero l = absurd (omega arith)
  most_room_below i (suc d) l =
      ⊎_elim (λ b. omega (arith, most_room_below i d b)) (λ b. let e : i ≡ d = omega arith in omega (arith, ap (room m g) e)) (cases_lt i d)

  most_room_above : (n d : ℕ) → n < most_room m g d → (n ≡ 0) ⊎ ((i : ℕ) × (i < d) × (n < room m g i))
  most_room_above n zero l = inl (omega arith)
  most_room_above n (suc d) l =
      ⊎_elim
      (λ b. inr (d, omega arith, b))
      (λ b. ⊎_elim (λ e. inl e) (λ r. inr (r.0, omega (arith, r.1), r.2)) (most_room_above n d (omega arith)))
      (cases_lt n (room m g d))

  -- a leg needs one record, and room at each depth below its end
  pub need_one : 1 ≤ need m g
  need_one = most_room_one (end m g)

  pub need_room : (d : ℕ) → d < end m g → room m g d ≤ need m g
  need_room d l = most_room_below d (end m g) l

  -- and no more than one of these
  pub need_above : (n : ℕ) → n < need m g → (n ≡ 0) ⊎ ((d : ℕ) × (d < end m g) × (n < room m g d))
  need_above n l = most_room_above n (end m g) l
