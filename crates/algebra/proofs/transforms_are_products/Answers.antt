use Rattle.algebra.proofs.KemTransform.{kem_inverse_of_ntt, kem_ntt_of_inverse, kem_product}
use Rattle.algebra.proofs.DsaTransform.{dsa_inverse_of_ntt, dsa_ntt_of_inverse, dsa_product}
use Rattle.algebra.proofs.transforms_are_products.Goals as goal

pub returns : goal.returns
returns c = (
  (λ f g hf hg. (kem_inverse_of_ntt f hf.0 hf.1, kem_ntt_of_inverse f hf.0 hf.1, kem_product f g)),
  (λ f g hf hg. (dsa_inverse_of_ntt f hf.0 hf.1, dsa_ntt_of_inverse f hf.0 hf.1, dsa_product f g)),
)
