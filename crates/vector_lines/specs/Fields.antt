-- The fields of a line, as the code holds them. Assumes nothing.
use Rattle.std.specs.Prelude.{vec_items}
use Rattle.vector_lines.specs.declared.kem.KemFields.{KemFields as KemRead}
use Rattle.vector_lines.specs.declared.dsa.DsaFields.{DsaFields as DsaRead}
use Rattle.vector_lines.specs.KemLines.{KemFields}
use Rattle.vector_lines.specs.DsaLines.{DsaFields}

abbrev pub kem_fields : KemRead → KemFields
kem_fields f = record { d = f.d; z = f.z; m = f.m; ek = vec_items f.ek; dk = vec_items f.dk; c = vec_items f.c; key = vec_items f.key }

abbrev pub dsa_fields : DsaRead → DsaFields
dsa_fields f = record { xi = f.xi; ctx = vec_items f.ctx; message = vec_items f.message; coin = f.coin; pk = vec_items f.pk; sk = vec_items f.sk; sig = vec_items f.sig }
