-- Numbers that agree modulo q.
use Rattle.std.proofs.Common.{◌≡◌, ℕ, zero, suc, ◌+◌, ◌*◌, ◌/◌, ◌%◌, ◌^◌, ◌<◌, sym, refl, ap, ◌∙◌, mod-lt, mul_comm, pow-suc, arith, pow-add}
use Rattle.std.proofs.Math.Nat.{div-add-mod, add-mul-mod_self_left, mod-mod, pow-zero}
use Rattle.standards.specs.Lists.{sum_to}
use Rattle.standards.specs.Ring.{power}
use Rattle.algebra.specs.Modular.{sub_m}

pub record Same (q a b : ℕ) : Type 0 where
  pub is : a % q ≡ b % q

infixr 30 ◌▸◌
pub ◌▸◌ : {q a b c : ℕ} → Same q a b → Same q b c → Same q a c
h ▸ g = record { is = h.is ∙ g.is }

pub back_of : {q a b : ℕ} → Same q a b → Same q b a
back_of h = record { is = sym h.is }

pub same_is : {q a b : ℕ} → a ≡ b → Same q a b
same_is {q} e = record { is = ap (λ x. x % q) e }

-- by whole multiples of q on both sides: omega multiplies out
pub same_by : {q a b : ℕ} (k l : ℕ) → a + q * k ≡ b + q * l → Same q a b
same_by {q} {a} {b} k l e = record { is = sym (add-mul-mod_self_left a q k) ∙ (ap (λ x. x % q) e ∙ add-mul-mod_self_left b q l) }

pub same_mod : {q a : ℕ} → Same q (a % q) a
same_mod {q} {a} = record { is = mod-mod a q }

-- the same as an equation of numbers
pub same_parts : {q a b : ℕ} → Same q a b → a + q * (b / q) ≡ b + q * (a / q)
same_parts {q} {a} {b} h = omega (arith, div-add-mod a q, div-add-mod b q, h.is)

pub same_add : {q a b c d : ℕ} → Same q a b → Same q c d → Same q (a + c) (b + d)
same_add {q} {a} {b} {c} {d} h g = same_by (b / q + d / q) (a / q + c / q) (omega (arith, same_parts h, same_parts g))

pub same_cancel : {q a b : ℕ} (c : ℕ) → Same q (a + c) (b + c) → Same q a b
same_cancel {q} {a} {b} c h = same_by ((b + c) / q) ((a + c) / q) (omega (arith, same_parts h))

pub same_scale : {q a b : ℕ} (c : ℕ) → Same q a b → Same q (c * a) (c * b)
same_scale {q} {a} {b} c h = same_by (b / q * c) (a / q * c) (omega (arith, ap (λ x. x * c) (same_parts h)))

pub same_mul : {q a b c d : ℕ} → Same q a b → Same q c d → Same q (a * c) (b * d)
same_mul {q} {a} {b} {c} {d} h g = same_is (mul_comm a c) ▸ same_scale c h ▸ same_is (mul_comm c b) ▸ same_scale b g

pub same_pow : {q a b : ℕ} (n : ℕ) → Same q a b → Same q (a ^ n) (b ^ n)
same_pow {a} {b} zero h = same_is (pow-zero a ∙ sym (pow-zero b))
same_pow {a} {b} (suc n) h = same_is (pow-suc a n) ▸ same_mul (same_pow n h) h ▸ same_is (sym (pow-suc b n))

pub same_sum : {q : ℕ} (n : ℕ) (f g : ℕ → ℕ) → ((j : ℕ) → j < n → Same q (f j) (g j)) → Same q (sum_to n f) (sum_to n g)
unfolding sum_to
same_sum zero f g h = same_is refl
same_sum (suc n) f g h = same_add (h n (omega arith)) (same_sum n f g (λ j l. h j (omega arith)))

-- a difference and what was taken away
pub sub_add : (q a b : ℕ) → 0 < q → Same q (sub_m q a b + b) a
sub_add q a b p = same_add same_mod (same_is refl) ▸ same_by 0 (b / q + 1) (omega (arith, div-add-mod b q, mod-lt b p))

-- powers
pub power_is : (q b n : ℕ) → power q b n ≡ (b ^ n) % q
unfolding power
power_is q b zero = ap (λ x. x % q) (sym (pow-zero b))
power_is q b (suc n) = (same_scale b (same_is (power_is q b n) ▸ same_mod) ▸ same_is (mul_comm b (b ^ n) ∙ sym (pow-suc b n))).is

pub pow_mul : (b m n : ℕ) → b ^ (m * n) ≡ (b ^ m) ^ n
pow_mul b m zero = ap (λ x. b ^ x) {x = m * 0} {y = 0} (omega arith) ∙ (pow-zero b ∙ sym (pow-zero (b ^ m)))
pow_mul b m (suc n) = ap (λ x. b ^ x) {x = m * suc n} {y = m * n + m} (omega arith) ∙ (pow-add b (m * n) m ∙ (ap (λ x. x * b ^ m) (pow_mul b m n) ∙ sym (pow-suc (b ^ m) n)))

pub one_pow : (n : ℕ) → 1 ^ n ≡ 1
one_pow zero = refl
one_pow (suc n) = pow-suc 1 n ∙ omega (arith, one_pow n)

pub pow_mul_base : (a b n : ℕ) → (a * b) ^ n ≡ a ^ n * b ^ n
pow_mul_base a b zero = rw (pow-zero, pow-zero, pow-zero)
pow_mul_base a b (suc n) = rw (pow-suc (a * b) n, pow-suc a n, pow-suc b n, pow_mul_base a b n) (omega arith)
