-- Whole numbers as a ring.
use Rattle.std.proofs.Common.{◌≡◌, zero, suc, ℤ, pos, negsuc, neg_ℤ, ◌+ℤ◌, ◌*ℤ◌, ap, ◌∙◌, sym}
use lib.IntN.{one}
use Rattle.std.proofs.Math.IntN.{suc_ℤ, pred_ℤ, +ℤ_assoc, +ℤ_comm, +ℤ_idl, +ℤ_idr, +ℤ_invl, +ℤ_invr, *ℤ_comm, *ℤ-one, *ℤ-zero, zero-*ℤ, suc_ℤ-+ℤ, pred_ℤ-+ℤ, suc_ℤ-*ℤ, pred_ℤ-*ℤ}

-- a + b + c with the last two exchanged
pub swap_last : (a b c : ℤ) → (a +ℤ b) +ℤ c ≡ (a +ℤ c) +ℤ b
swap_last a b c = +ℤ_assoc a b c ∙ ap (λ x. a +ℤ x) (+ℤ_comm b c) ∙ sym (+ℤ_assoc a c b)

up : (a b c : ℤ) → (a +ℤ b) *ℤ c ≡ a *ℤ c +ℤ b *ℤ c → (suc_ℤ a +ℤ b) *ℤ c ≡ suc_ℤ a *ℤ c +ℤ b *ℤ c
up a b c h = ap (λ x. x *ℤ c) (suc_ℤ-+ℤ a b) ∙ suc_ℤ-*ℤ (a +ℤ b) c ∙ ap (λ x. x +ℤ c) h ∙ swap_last (a *ℤ c) (b *ℤ c) c ∙ ap (λ x. x +ℤ b *ℤ c) (sym (suc_ℤ-*ℤ a c))

down : (a b c : ℤ) → (a +ℤ b) *ℤ c ≡ a *ℤ c +ℤ b *ℤ c → (pred_ℤ a +ℤ b) *ℤ c ≡ pred_ℤ a *ℤ c +ℤ b *ℤ c
down a b c h = ap (λ x. x *ℤ c) (pred_ℤ-+ℤ a b) ∙ pred_ℤ-*ℤ (a +ℤ b) c ∙ ap (λ x. x +ℤ neg_ℤ c) h ∙ swap_last (a *ℤ c) (b *ℤ c) (neg_ℤ c) ∙ ap (λ x. x +ℤ b *ℤ c) (sym (pred_ℤ-*ℤ a c))

at_zero : (b c : ℤ) → (pos zero +ℤ b) *ℤ c ≡ pos zero *ℤ c +ℤ b *ℤ c
at_zero b c = ap (λ x. x *ℤ c) (+ℤ_idl b) ∙ sym (ap (λ x. x +ℤ b *ℤ c) (zero-*ℤ c) ∙ +ℤ_idl (b *ℤ c))

pub distributes : (a b c : ℤ) → (a +ℤ b) *ℤ c ≡ a *ℤ c +ℤ b *ℤ c
distributes (pos zero) b c = at_zero b c
distributes (pos (suc n)) b c = up (pos n) b c (distributes (pos n) b c)
distributes (negsuc zero) b c = down (pos zero) b c (at_zero b c)
distributes (negsuc (suc n)) b c = down (negsuc n) b c (distributes (negsuc n) b c)

-- what is added to give 0 is the negation
opposite : (a b : ℤ) → a +ℤ b ≡ pos zero → a ≡ neg_ℤ b
opposite a b h = sym (+ℤ_idr a) ∙ ap (λ x. a +ℤ x) (sym (+ℤ_invr b)) ∙ sym (+ℤ_assoc a b (neg_ℤ b)) ∙ ap (λ x. x +ℤ neg_ℤ b) h ∙ +ℤ_idl (neg_ℤ b)

pub neg_times : (a b : ℤ) → neg_ℤ a *ℤ b ≡ neg_ℤ (a *ℤ b)
neg_times a b = opposite (neg_ℤ a *ℤ b) (a *ℤ b) (sym (distributes (neg_ℤ a) a b) ∙ ap (λ x. x *ℤ b) (+ℤ_invl a) ∙ zero-*ℤ b)

pub times_neg : (a b : ℤ) → a *ℤ neg_ℤ b ≡ neg_ℤ (a *ℤ b)
times_neg a b = *ℤ_comm a (neg_ℤ b) ∙ neg_times b a ∙ ap neg_ℤ (*ℤ_comm b a)

pub distributes_right : (a b c : ℤ) → a *ℤ (b +ℤ c) ≡ a *ℤ b +ℤ a *ℤ c
distributes_right a b c = *ℤ_comm a (b +ℤ c) ∙ distributes b c a ∙ ap (λ x. x +ℤ c *ℤ a) (*ℤ_comm b a) ∙ ap (λ x. a *ℤ b +ℤ x) (*ℤ_comm c a)

up' : (a b c : ℤ) → (a *ℤ b) *ℤ c ≡ a *ℤ (b *ℤ c) → (suc_ℤ a *ℤ b) *ℤ c ≡ suc_ℤ a *ℤ (b *ℤ c)
up' a b c h = ap (λ x. x *ℤ c) (suc_ℤ-*ℤ a b) ∙ distributes (a *ℤ b) b c ∙ ap (λ x. x +ℤ b *ℤ c) h ∙ sym (suc_ℤ-*ℤ a (b *ℤ c))

down' : (a b c : ℤ) → (a *ℤ b) *ℤ c ≡ a *ℤ (b *ℤ c) → (pred_ℤ a *ℤ b) *ℤ c ≡ pred_ℤ a *ℤ (b *ℤ c)
down' a b c h = ap (λ x. x *ℤ c) (pred_ℤ-*ℤ a b) ∙ distributes (a *ℤ b) (neg_ℤ b) c ∙ ap (λ x. x +ℤ neg_ℤ b *ℤ c) h ∙ ap (λ x. a *ℤ (b *ℤ c) +ℤ x) (neg_times b c) ∙ sym (pred_ℤ-*ℤ a (b *ℤ c))

at_zero' : (b c : ℤ) → (pos zero *ℤ b) *ℤ c ≡ pos zero *ℤ (b *ℤ c)
at_zero' b c = ap (λ x. x *ℤ c) (zero-*ℤ b) ∙ zero-*ℤ c ∙ sym (zero-*ℤ (b *ℤ c))

pub times_assoc : (a b c : ℤ) → (a *ℤ b) *ℤ c ≡ a *ℤ (b *ℤ c)
times_assoc (pos zero) b c = at_zero' b c
times_assoc (pos (suc n)) b c = up' (pos n) b c (times_assoc (pos n) b c)
times_assoc (negsuc zero) b c = down' (pos zero) b c (at_zero' b c)
times_assoc (negsuc (suc n)) b c = down' (negsuc n) b c (times_assoc (negsuc n) b c)

pub one_times : (a : ℤ) → pos 1 *ℤ a ≡ a
unfolding one
one_times a = *ℤ_comm (pos 1) a ∙ *ℤ-one a

pub times_one : (a : ℤ) → a *ℤ pos 1 ≡ a
unfolding one
times_one a = *ℤ-one a

pub times_swap : (a b c : ℤ) → (a *ℤ b) *ℤ c ≡ (a *ℤ c) *ℤ b
times_swap a b c = times_assoc a b c ∙ ap (λ x. a *ℤ x) (*ℤ_comm b c) ∙ sym (times_assoc a c b)

-- what replaces a factor that is divided by: v*(-r*r*q) is -(v*r*q*r)
pub inverse_part : (v r q : ℤ) → v *ℤ (neg_ℤ r *ℤ r *ℤ q) ≡ neg_ℤ (v *ℤ r *ℤ q *ℤ r)
inverse_part v r q =
    ap (λ x. v *ℤ (x *ℤ q)) (neg_times r r) ∙ ap (λ x. v *ℤ x) (neg_times (r *ℤ r) q) ∙ times_neg v (r *ℤ r *ℤ q)
    ∙ ap neg_ℤ (ap (λ x. v *ℤ x) (times_swap r r q) ∙ sym (times_assoc v (r *ℤ q) r) ∙ ap (λ x. x *ℤ r) (sym (times_assoc v r q)))

-- one step of a product
pub product_step : (p w v q rest terms : ℤ) → (p *ℤ w +ℤ v *ℤ q) *ℤ rest +ℤ terms ≡ p *ℤ (w *ℤ rest) +ℤ ((v *ℤ q) *ℤ rest +ℤ terms)
product_step p w v q rest terms =
    ap (λ x. x +ℤ terms) (distributes (p *ℤ w) (v *ℤ q) rest) ∙ ap (λ x. x +ℤ (v *ℤ q) *ℤ rest +ℤ terms) (times_assoc p w rest)
    ∙ +ℤ_assoc (p *ℤ (w *ℤ rest)) ((v *ℤ q) *ℤ rest) terms

pub still_step : (p w v rest terms : ℤ) → (p *ℤ w +ℤ v *ℤ pos 0) *ℤ rest +ℤ terms ≡ p *ℤ (w *ℤ rest) +ℤ terms
still_step p w v rest terms =
    ap (λ x. (p *ℤ w +ℤ x) *ℤ rest +ℤ terms) (*ℤ-zero v) ∙ ap (λ x. x *ℤ rest +ℤ terms) (+ℤ_idr (p *ℤ w)) ∙ ap (λ x. x +ℤ terms) (times_assoc p w rest)
