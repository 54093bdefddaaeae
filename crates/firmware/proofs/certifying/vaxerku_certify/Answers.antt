use Rattle.std.proofs.Common.{◌≡◌, sym, subst, rules}
use Rattle.firmware.specs.Certificates.{NumberLaw, file_certificate, number_by}
use Rattle.firmware.proofs.FileCertificates.{number_law}
use Rattle.firmware.proofs.certifying.vaxerku_certify.Goals as goal

pub returns : goal.returns
returns c =
    let file = c.args.file.now in
    let is : c.from.result ≡ number_by (file_certificate file) = search rules in
    record { number = is; law = subst (NumberLaw file) (sym is) (number_law file c.certify_file.ensures.law) }
