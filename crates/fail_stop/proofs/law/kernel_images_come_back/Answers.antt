use Rattle.fail_stop.proofs.KernelBack.{kernel_back}
use Rattle.fail_stop.proofs.law.kernel_images_come_back.Goals as goal

pub returns : goal.returns
returns c = kernel_back
